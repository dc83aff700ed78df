-- The ends of texts and lists.
use Rattle.std.proofs.Common.{◌≡◌, refl, sym, ◌∙◌, ap, arith, ℕ, suc, ◌-◌, Bool, true, false, cond, List, [], ◌∷◌, ◌++◌, length, take, drop, Some, nat_eq, ◌==◌}
use Rattle.std.specs.List.{slice_get}
use Rattle.std.specs.Cmp.Lexicographic.{pointwise}
use Rattle.std.proofs.lemmas.Slice.Eq.{ends_is}
use Rattle.std.proofs.lemmas.Bool.Decides.{Decides-eqb}
use Rattle.std.proofs.lemmas.Bool.{eqb-true}
use Rattle.task_model.specs.Scripts.{ended, last_of}

-- a text with a newline at its end

ended_there : (front : List ℕ) → ended (front ++ 10 ∷ []) ≡ front ++ 10 ∷ []
ended_there [] = refl
ended_there (c ∷ []) = refl
ended_there (c ∷ (d ∷ front)) = ap (λ l. c ∷ l) (ended_there (d ∷ front))

ended_one : (c : ℕ) (b : Bool) → (c == 10) ≡ b → (b ≡ true → ⊥) → ended (c ∷ []) ≡ c ∷ (10 ∷ [])
ended_one c true e h = absurd (h refl)
ended_one c false e h = ap (λ t. cond t (c ∷ []) (c ∷ (10 ∷ []))) e

ended_away : (text : List ℕ) → ((front : List ℕ) → text ≡ front ++ 10 ∷ [] → ⊥) → ended text ≡ text ++ 10 ∷ []
ended_away [] h = refl
ended_away (c ∷ []) h = ended_one c (c == 10) refl (λ e. h [] (ap (λ d. d ∷ []) (eqb-true c 10 e)))
ended_away (c ∷ (d ∷ text)) h = ap (λ l. c ∷ l) (ended_away (d ∷ text) (λ front e. h (c ∷ front) (ap (λ l. c ∷ l) e)))

pub ends_there : (text bytes : List ℕ) (r : Bool) → bytes ≡ text → r ≡ pointwise nat_eq (10 ∷ []) (drop (length bytes - 1) bytes) → r ≡ true → text ≡ ended text
ends_there text bytes r same is t =
    let e = (ends_is Decides-eqb bytes (10 ∷ []) r is).0 t in
    let whole : text ≡ take (length bytes - 1) bytes ++ 10 ∷ [] = sym same ∙ e in
    whole ∙ sym (ended_there (take (length bytes - 1) bytes)) ∙ ap ended (sym whole)

pub ends_away : (text bytes : List ℕ) (r : Bool) → bytes ≡ text → r ≡ pointwise nat_eq (10 ∷ []) (drop (length bytes - 1) bytes) → r ≡ false → text ++ 10 ∷ [] ≡ ended text
ends_away text bytes r same is f =
    sym (ended_away text (λ front e. (let t : r ≡ true = (ends_is Decides-eqb bytes (10 ∷ []) r is).1 front (same ∙ e) in cc)))

-- the last of a list

pub last_there : (last x : List ℕ) (xs : List (List ℕ)) → Some x ≡ slice_get xs (length xs - 1) → x ≡ last_of last xs
last_there last x [] e = absurd cc
last_there last x (y ∷ []) e = let same : Some x ≡ Some y = e in cc
last_there last x (y ∷ (z ∷ xs)) e =
    let less : length (y ∷ (z ∷ xs)) - 1 ≡ suc (length (z ∷ xs) - 1) = omega arith in
    last_there y x (z ∷ xs) (e ∙ ap (slice_get (y ∷ (z ∷ xs))) less)
