-- The places of a task are folders.
use Rattle.std.proofs.Common.{◌≡◌, ◌∙◌, sym, ap, refl, subst, ℕ, ◌<◌, inl, inr, arith, List, [], ◌∷◌, length, zip, not, ◌&&◌, ◌||◌, Bool, true, false, Result, Ok, Err, All, Contains, nat_le, bytes_eq, codes}
use Rattle.std.specs.List.{AllByRecursion, list_all}
use Rattle.std.proofs.lemmas.List.Elements.{All-from_recursion, All-contains}
use Rattle.std.proofs.lemmas.Grind.{common_steps}
use Rattle.tree_model.specs.Path.{IsPart, IsClean, parts_of}
use Rattle.meta_model.proofs.Bools.{not_both, either_way, and_left, and_right, from_or, same_text, text_itself}
use Rattle.meta_model.specs.declared.entry.EntryLine.{EntryLine}
use Rattle.meta_model.specs.Text.{is_empty, is_in, words}
use Rattle.meta_model.specs.Names.{is_name_character}
use Rattle.meta_model.specs.Expansion.{Find}
use Rattle.meta_model.specs.Active.{find_in}
use Rattle.task_model.specs.TaskRefusal.{TaskRefusal, bad_flag, ◌>>=◌, require}
use Rattle.task_model.specs.Views.{seen_by}
use Rattle.task_model.specs.Leads.{is_key_name}
use Rattle.task_model.specs.Scripts.{Flags, flag_text, is_part, is_path, place_of, all_places, paired, places_from, store_flags, places}
use Rattle.plan_model.specs.Sound.{IsFolder}

task_parts : {A B : Type 0} (m : Result A TaskRefusal) (f : A → Result B TaskRefusal) (b : B) → (m >>= f) ≡ Ok b → (a : A) × (m ≡ Ok a) × (f a ≡ Ok b)
task_parts (Ok a) f b e = (a, refl, e)
task_parts (Err refusal) f b e = absurd (let n : Err refusal ≡ Ok b = e in cc)

require_ok : (b : Bool) (refusal : TaskRefusal) (u : Unit {0}) → require b refusal ≡ Ok u → b ≡ true
require_ok true refusal u e = refl
require_ok false refusal u e = absurd cc

each_passes : {A : Type 0} (p : A → Bool) (xs : List A) → list_all p xs ≡ true → AllByRecursion (λ x. p x ≡ true) xs
each_passes p [] h = tt
each_passes p (x ∷ xs) h = (and_left (p x) (list_all p xs) h, each_passes p xs (and_right (p x) (list_all p xs) h))

weaker : {A : Type 0} (P Q : A → Type 0) → ((x : A) → P x → Q x) → (xs : List A) → AllByRecursion P xs → AllByRecursion Q xs
weaker P Q f [] h = tt
weaker P Q f (x ∷ xs) h = (f x h.0, weaker P Q f xs h.1)

no_zero : (part : List ℕ) → is_key_name part ≡ true → Contains part 0 → ⊥
no_zero part h at = let z : is_name_character 0 ≡ true = All-contains (λ c. is_name_character c ≡ true) part 0 (All-from_recursion (λ c. is_name_character c ≡ true) part (each_passes is_name_character part h)) at in (let f : is_name_character 0 ≡ false = refl in not_both (is_name_character 0) z f)

long_enough : (part : List ℕ) → not (is_empty part) ≡ true → 0 < length part
long_enough [] h = absurd (cc)
long_enough (c ∷ part) h = omega arith

not_in : (part : List ℕ) (text : List ℕ) (rest : List (List ℕ)) → not (is_in part (text ∷ rest)) ≡ true → part ≡ text → ⊥
not_in part text rest h e = by (bytes_eq part text) refl
  where
    by : (b : Bool) → bytes_eq part text ≡ b → ⊥
    by true f = not_both {A = ⊥} (not (is_in part (text ∷ rest))) h (ap (λ b. not (b || is_in part rest)) f)
    by false f = not_both {A = ⊥} (bytes_eq part text) (subst (λ t. bytes_eq part t ≡ true) e (text_itself part)) f

not_later : (part : List ℕ) (text : List ℕ) (rest : List (List ℕ)) → not (is_in part (text ∷ rest)) ≡ true → not (is_in part rest) ≡ true
not_later part text rest h = by (bytes_eq part text) refl
  where
    by : (b : Bool) → bytes_eq part text ≡ b → not (is_in part rest) ≡ true
    by true f = not_both (not (is_in part (text ∷ rest))) h (ap (λ b. not (b || is_in part rest)) f)
    by false f = sym (ap (λ b. not (b || is_in part rest)) f) ∙ h

part_is : (part : List ℕ) → is_part part ≡ true → IsPart part
part_is part h =
    let there = and_left (not (is_empty part)) (nat_le (length part) 255 && (is_key_name part && not (is_in part (codes "." ∷ codes ".." ∷ [])))) h in
    let rest = and_right (not (is_empty part)) (nat_le (length part) 255 && (is_key_name part && not (is_in part (codes "." ∷ codes ".." ∷ [])))) h in
    let short = and_left (nat_le (length part) 255) (is_key_name part && not (is_in part (codes "." ∷ codes ".." ∷ []))) rest in
    let last = and_right (nat_le (length part) 255) (is_key_name part && not (is_in part (codes "." ∷ codes ".." ∷ []))) rest in
    let named = and_left (is_key_name part) (not (is_in part (codes "." ∷ codes ".." ∷ []))) last in
    let other = and_right (is_key_name part) (not (is_in part (codes "." ∷ codes ".." ∷ []))) last in
    record {
      not_empty = long_enough part there;
      short = grind (arith, common_steps, short);
      not_here = not_in part (codes ".") (codes ".." ∷ []) other;
      not_above = not_in part (codes "..") [] (not_later part (codes ".") (codes ".." ∷ []) other);
      no_zero = no_zero part named;
    }

path_is : (path : List ℕ) → is_path path ≡ true → IsClean path
path_is path h =
    let short = and_left (nat_le (length path) 4096) (list_all is_part (parts_of path)) h in
    let parts = and_right (nat_le (length path) 4096) (list_all is_part (parts_of path)) h in
    record { short = grind (arith, common_steps, short); parts = All-from_recursion IsPart (parts_of path) (weaker (λ p. is_part p ≡ true) IsPart part_is (parts_of path) (each_passes is_part (parts_of path) parts)) }

folder_is : (place : List ℕ) → (bytes_eq place (codes ".") || is_path place) ≡ true → IsFolder place
folder_is place h = elim (either_way (bytes_eq place (codes "."))) [
  | inl e ↦ inl (same_text place (codes ".") e)
  | inr e ↦ inr (path_is place (from_or (bytes_eq place (codes ".")) (is_path place) h e))
]

all_folders : (f : List ℕ) (words list : List (List ℕ)) → all_places f words ≡ Ok list → AllByRecursion IsFolder list
all_folders f [] list e = subst (AllByRecursion IsFolder) (let k : Ok [] ≡ Ok list = e in let s : [] ≡ list = cc in s) tt
all_folders f (word ∷ rest) list e =
    let last = λ (others : List (List ℕ)). let r : Result (List (List ℕ)) TaskRefusal = Ok (place_of word ∷ others) in r in
    let fits = task_parts (require (bytes_eq (place_of word) (codes ".") || is_path (place_of word)) (bad_flag f word)) (λ fits. all_places f rest >>= last) list e in
    let others = task_parts (all_places f rest) last list fits.2 in
    let same : place_of word ∷ others.0 ≡ list = (let k : Ok (place_of word ∷ others.0) ≡ Ok list = others.2 in cc) in
    subst (AllByRecursion IsFolder) same
    (folder_is (place_of word) (require_ok (bytes_eq (place_of word) (codes ".") || is_path (place_of word)) (bad_flag f word) fits.0 fits.1), all_folders f rest others.0 others.1)

zipped_inner : (P : List ℕ → Type 0) (xs ys : List (List ℕ)) → AllByRecursion P xs → AllByRecursion (λ p. P p.0) (zip xs ys)
zipped_inner P [] ys h = tt
zipped_inner P (x ∷ xs) [] h = tt
zipped_inner P (x ∷ xs) (y ∷ ys) h = (h.0, zipped_inner P xs ys h.1)

zipped_outer : (P : List ℕ → Type 0) (xs ys : List (List ℕ)) → AllByRecursion P ys → AllByRecursion (λ p. P p.1) (zip xs ys)
zipped_outer P [] ys h = tt
zipped_outer P (x ∷ xs) [] h = tt
zipped_outer P (x ∷ xs) (y ∷ ys) h = (h.0, zipped_outer P xs ys h.1)

pub record AreFolders (pairs : List (List ℕ × List ℕ)) : Type 0 where
  pub inner : All (λ p. IsFolder p.0) pairs
  pub outer : All (λ p. IsFolder p.1) pairs

from_folders : (find : Find) (flags : Flags) (pairs : List (List ℕ × List ℕ)) → places_from find flags ≡ Ok pairs → AreFolders pairs
from_folders find flags pairs e =
    let fifth = λ (inputs outputs : List (List ℕ)) (u : Unit {0}). let r : Result (List (List ℕ × List ℕ)) TaskRefusal = Ok (zip inputs outputs) in r in
    let fourth = λ (input_text : List ℕ) (inputs : List (List ℕ)) (output_text : List ℕ) (outputs : List (List ℕ)). paired (words input_text) (words output_text) >>= fifth inputs outputs in
    let third = λ (input_text : List ℕ) (inputs : List (List ℕ)) (output_text : List ℕ). all_places (codes "sstate-outputdirs") (words output_text) >>= fourth input_text inputs output_text in
    let second = λ (input_text : List ℕ) (inputs : List (List ℕ)). flag_text find flags (codes "sstate-outputdirs") >>= third input_text inputs in
    let first = λ (input_text : List ℕ). all_places (codes "sstate-inputdirs") (words input_text) >>= second input_text in
    let input_text = task_parts (flag_text find flags (codes "sstate-inputdirs")) first pairs e in
    let inputs = task_parts (all_places (codes "sstate-inputdirs") (words input_text.0)) (second input_text.0) pairs input_text.2 in
    let output_text = task_parts (flag_text find flags (codes "sstate-outputdirs")) (third input_text.0 inputs.0) pairs inputs.2 in
    let outputs = task_parts (all_places (codes "sstate-outputdirs") (words output_text.0)) (fourth input_text.0 inputs.0 output_text.0) pairs output_text.2 in
    let done = task_parts (paired (words input_text.0) (words output_text.0)) (fifth inputs.0 outputs.0) pairs outputs.2 in
    let same : zip inputs.0 outputs.0 ≡ pairs = (let k : Ok (zip inputs.0 outputs.0) ≡ Ok pairs = done.2 in cc) in
    subst AreFolders {x = zip inputs.0 outputs.0} same (record {
      inner = All-from_recursion (λ p. IsFolder p.0) (zip inputs.0 outputs.0) (zipped_inner IsFolder inputs.0 outputs.0 (all_folders (codes "sstate-inputdirs") (words input_text.0) inputs.0 inputs.1));
      outer = All-from_recursion (λ p. IsFolder p.1) (zip inputs.0 outputs.0) (zipped_outer IsFolder inputs.0 outputs.0 (all_folders (codes "sstate-outputdirs") (words output_text.0) outputs.0 outputs.1));
    })

pub places_are_folders : (store : List EntryLine) (task : List ℕ) (pairs : List (List ℕ × List ℕ)) → places store task ≡ Ok pairs → AreFolders pairs
places_are_folders store task pairs e = from_folders (seen_by task (find_in store)) (store_flags store task) pairs e
