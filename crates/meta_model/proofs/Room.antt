-- What is expanded has room, and values depend on what is found alone.
use Rattle.std.proofs.Common.{◌≡◌, refl, ap, arith, ℕ, ◌-◌, ◌≤◌, nat_le, List, [], ◌∷◌, ◌++◌, length, Bool, true, false, Result, Ok, Err, Option}
use Rattle.std.proofs.lemmas.Grind.{common_steps}
use Rattle.std.specs.List.{list_all}
use Rattle.meta_model.specs.Refusal.{Refusal, too_long, too_deep, ◌>>=◌, require}
use Rattle.meta_model.specs.Names.{is_name_character}
use Rattle.meta_model.specs.Parts.{Parts, end, plain, reference, form, parts_of, depth}
use Rattle.meta_model.specs.Forms.{form_text}
use Rattle.meta_model.specs.Expansion.{put_before, words_there, IsAlike, or_reference, look_up, expanded_parts, expanded, value_by, expand_by, Find, Values, longest, deepest}

-- the two parts of an answer
pub ok_parts : {A B : Type 0} (m : Result A Refusal) (f : A → Result B Refusal) (b : B) → (m >>= f) ≡ Ok b → (a : A) × (m ≡ Ok a) × (f a ≡ Ok b)
ok_parts (Ok a) f b e = (a, refl, e)
ok_parts (Err refusal) f b e = absurd (let n : Err refusal ≡ Ok b = e in cc)

require_ok : (b : Bool) (refusal : Refusal) (u : Unit {0}) → require b refusal ≡ Ok u → b ≡ true
require_ok true refusal u e = refl
require_ok false refusal u e = absurd cc

put_room : (name : List ℕ) (room : ℕ) (piece : List ℕ) (rest : ℕ → Result (List ℕ) Refusal) (t : List ℕ) → ((r : ℕ) (u : List ℕ) → rest r ≡ Ok u → length u ≤ r) → put_before name room piece rest ≡ Ok t → length t ≤ room
put_room name room piece rest t bound e =
    let first = ok_parts (require (nat_le (length piece) room) (too_long name)) (λ fits. rest (room - length piece) >>= (λ after. Ok (piece ++ after))) t e in
    let second = ok_parts (rest (room - length piece)) (λ after. Ok (piece ++ after)) t first.2 in
    let fits = require_ok (nat_le (length piece) room) (too_long name) first.0 first.1 in
    let short = bound (room - length piece) second.0 second.1 in
    grind (arith, common_steps, fits, short, second.2)

parts_room : (values : Values) (name : List ℕ) (parts : Parts) (room : ℕ) (t : List ℕ) → expanded_parts values name parts room ≡ Ok t → length t ≤ room
parts_room values name end room t e = grind (arith, common_steps, e)
parts_room values name (plain c rest) room t e = put_room name room (c ∷ []) (expanded_parts values name rest) t (λ r u h. parts_room values name rest r u h) e
parts_room values name (reference inner rest) room t e =
    let tail = expanded_parts values name rest in
    let step = λ (looked : List ℕ) (found : Option (List ℕ)). put_before name room (or_reference looked found) tail in
    let looked = ok_parts (expanded_parts values name inner longest) (λ looked. look_up values looked (list_all is_name_character looked) >>= step looked) t e in
    let found = ok_parts (look_up values looked.0 (list_all is_name_character looked.0)) (step looked.0) t looked.2 in
    put_room name room (or_reference looked.0 found.0) (expanded_parts values name rest) t (λ r u h. parts_room values name rest r u h) found.2
parts_room values name (form f rest) room t e =
    let there = ok_parts (words_there values f) (λ there. put_before name room (form_text f there) (expanded_parts values name rest)) t e in
    put_room name room (form_text f there.0) (expanded_parts values name rest) t (λ r u h. parts_room values name rest r u h) there.2

-- an expanded text has room
pub expanded_room : (values : Values) (name text t : List ℕ) → expanded values name text ≡ Ok t → length t ≤ longest
expanded_room values name text t e =
    let rest = ok_parts (require (nat_le (depth (parts_of text)) deepest) (too_deep name)) (λ shallow. expanded_parts values name (parts_of text) longest) t e in
    parts_room values name (parts_of text) longest t rest.2

-- where each name is found alike, values and texts are alike

one_find : (f g : Find) → IsAlike f g → f ≡ g
one_find f g alike = λ i. record { at = λ n. alike.at n i; known = λ n. λ w. alike.known n w i }

pub values_alike : (f g : Find) → IsAlike f g → (name : List ℕ) → value_by f name ≡ value_by g name
values_alike f g alike name = ap (λ k. value_by k name) (one_find f g alike)

pub texts_alike : (f g : Find) → IsAlike f g → (text : List ℕ) → expand_by f text ≡ expand_by g text
texts_alike f g alike text = ap (λ k. expand_by k text) (one_find f g alike)
