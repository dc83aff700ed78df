-- The steps of loops.
use Rattle.std.proofs.Common.{◌≡◌, refl, sym, ◌∙◌, ap, ℕ, ◌+◌, ◌<◌, ◌≤◌, Bool, true, false, ◌||◌, List, [], ◌∷◌, ◌++◌, length, get_or, drop, filter, Option, append_assoc, append-nil, if◌then◌else◌}
use Rattle.std.specs.List.{list_any}
use Rattle.std.proofs.lemmas.List.{drop_more, drop_all}
use Rattle.task_model.specs.Keys.{told_flags}
use Rattle.var_deps.specs.Known.{told_at}

abbrev pub Names : Type 0
Names = List (List ℕ)

from_here : (xs : Names) (i : ℕ) (x : List ℕ) → x ≡ get_or xs i x → i < length xs → drop i xs ≡ x ∷ drop (i + 1) xs
from_here xs i x is lt = drop_more xs i x lt ∙ ap (λ y. y ∷ drop (i + 1) xs) (sym is)

-- names that pass a test

filter_first : (p : List ℕ → Bool) (x : List ℕ) (rest : Names) → filter p (x ∷ rest) ≡ (if p x then x ∷ [] else []) ++ filter p rest
filter_first p x rest = one (p x)
  where
    one : (b : Bool) → (if b then x ∷ filter p rest else filter p rest) ≡ (if b then x ∷ [] else []) ++ filter p rest
    one true = refl
    one false = refl

pub filter_turn : (p : List ℕ → Bool) (whole before made xs : Names) (i : ℕ) (x : List ℕ) → x ≡ get_or xs i x → i < length xs → whole ≡ before ++ filter p (drop i xs) → made ≡ before ++ (if p x then x ∷ [] else []) → whole ≡ made ++ filter p (drop (i + 1) xs)
filter_turn p whole before made xs i x at lt w e =
    w ∙ ap (λ l. before ++ filter p l) (from_here xs i x at lt) ∙ ap (λ l. before ++ l) (filter_first p x (drop (i + 1) xs))
    ∙ sym (append_assoc before (if p x then x ∷ [] else []) (filter p (drop (i + 1) xs))) ∙ ap (λ l. l ++ filter p (drop (i + 1) xs)) (sym e)

pub filter_done : (p : List ℕ → Bool) (whole made xs : Names) (i : ℕ) → length xs ≤ i → whole ≡ made ++ filter p (drop i xs) → made ≡ whole
filter_done p whole made xs i past w = sym (w ∙ ap (λ l. made ++ filter p l) (drop_all i xs past) ∙ append-nil made)

-- flags with their texts

pub flags_turn : (get : List ℕ → Option (List ℕ)) (whole before made : List (List ℕ × List ℕ)) (fs : Names) (i : ℕ) (f : List ℕ) → f ≡ get_or fs i f → i < length fs → whole ≡ before ++ told_flags get (drop i fs) → made ≡ before ++ told_at f (get f) → whole ≡ made ++ told_flags get (drop (i + 1) fs)
flags_turn get whole before made fs i f at lt w e =
    w ∙ ap (λ l. before ++ told_flags get l) (from_here fs i f at lt)
    ∙ sym (append_assoc before (told_at f (get f)) (told_flags get (drop (i + 1) fs))) ∙ ap (λ l. l ++ told_flags get (drop (i + 1) fs)) (sym e)

-- names that aren't left out

filter_one : (p : List ℕ → Bool) (b : Bool) (x : List ℕ) (rest xs ys : Names) → rest ≡ xs ++ ys → (if b then x ∷ rest else rest) ≡ (if b then x ∷ xs else xs) ++ ys
filter_one p true x rest xs ys e = ap (λ l. x ∷ l) e
filter_one p false x rest xs ys e = e

pub filter_more : (p : List ℕ → Bool) (xs ys : Names) → filter p (xs ++ ys) ≡ filter p xs ++ filter p ys
filter_more p [] ys = refl
filter_more p (x ∷ xs) ys = filter_one p (p x) x (filter p (xs ++ ys)) (filter p xs) (filter p ys) (filter_more p xs ys)

any_one : (b rest first later : Bool) → rest ≡ (first || later) → (b || rest) ≡ ((b || first) || later)
any_one true rest first later e = refl
any_one false rest first later e = e

pub any_more : (p : List ℕ → Bool) (xs ys : Names) → list_any p (xs ++ ys) ≡ (list_any p xs || list_any p ys)
any_more p [] ys = refl
any_more p (x ∷ xs) ys = any_one (p x) (list_any p (xs ++ ys)) (list_any p xs) (list_any p ys) (any_more p xs ys)
