-- Parts and their places among the active overrides.
use Rattle.std.proofs.Common.{◌≡◌, refl, sym, ap, ◌∙◌, inl, inr, arith, ℕ, zero, suc, ◌+◌, ◌<◌, Bool, true, false, ◌&&◌, ◌||◌, ◌==◌, nat_lt, List, [], ◌∷◌, ◌++◌, map, reverse, length, drop, get_or, bytes_eq, append_assoc, append-nil, lt-ltb, le-ltb, ltb-true, eq-eqb, ne_eqb, eqb-true, true≢false}
use Rattle.std.specs.List.{slice_split, onto_first}
use Rattle.std.proofs.lemmas.List.{reverse-append}
use Rattle.std.proofs.lemmas.Bool.{cases_Bool}
use Rattle.meta_model.specs.Text.{is_colon, is_in}
use Rattle.meta_model.specs.Overrides.{place, is_greater, beats}

-- the last place

or_here : (a b : Bool) → a ≡ true → (a || b) ≡ true
or_here true b e = refl
or_here false b e = absurd (true≢false (sym e))

or_there : (a b : Bool) → b ≡ true → (a || b) ≡ true
or_there true b e = refl
or_there false b e = e

in_at : (active : List (List ℕ)) (part : List ℕ) (i : ℕ) (d : List ℕ) → i < length active → bytes_eq part (get_or active i d) ≡ true → is_in part active ≡ true
in_at [] part i d h e = absurd (omega arith)
in_at (piece ∷ pieces) part zero d h e = or_here (bytes_eq part piece) (is_in part pieces) e
in_at (piece ∷ pieces) part (suc i) d h e = or_there (bytes_eq part piece) (is_in part pieces) (in_at pieces part i d (omega arith) e)

place_here : (active : List (List ℕ)) (part : List ℕ) (i : ℕ) (d : List ℕ) → i < length active → bytes_eq part (get_or active i d) ≡ true → is_in part (drop (suc i) active) ≡ false → place active part ≡ i
place_here [] part i d h e f = absurd (omega arith)
place_here (piece ∷ pieces) part zero d h e f = rw f refl
place_here (piece ∷ pieces) part (suc i) d h e f = rw (in_at pieces part i d (omega arith) e) (ap suc (place_here pieces part i d (omega arith) e f))

pub place_at : (active : List (List ℕ)) (part : List ℕ) (i j : ℕ) (piece : List ℕ) → i ≡ j + 1 → j < length active → piece ≡ get_or active j piece → bytes_eq part piece ≡ true → is_in part (drop i active) ≡ false → j ≡ place active part
place_at active part i j piece n h e f g =
    sym (place_here active part j piece h (ap (bytes_eq part) (sym e) ∙ f) (ap (λ k. is_in part (drop k active)) (let s : suc j ≡ i = omega (arith, n) in s) ∙ g))

pub place_none : (active : List (List ℕ)) (part : List ℕ) → is_in part active ≡ false → 0 ≡ place active part
place_none [] part h = refl
place_none (piece ∷ pieces) part h = rw (rest (bytes_eq part piece) (is_in part pieces) h) refl
  where
    rest : (a b : Bool) → (a || b) ≡ false → b ≡ false
    rest true b e = absurd (true≢false e)
    rest false b e = e

-- forms compared from the first part: the last difference decides

abbrev pub beats_from : List (List ℕ) → Bool → List (List ℕ) → List (List ℕ) → Bool
beats_from active greater [] [] = greater
beats_from active greater (p ∷ ps) [] = true
beats_from active greater [] (q ∷ qs) = false
beats_from active greater (p ∷ ps) (q ∷ qs) = beats_from active (nat_lt (place active q) (place active p) || ((place active p == place active q) && greater)) ps qs

same_test : (a b : Bool) → (a ≡ true → b ≡ true) → (b ≡ true → a ≡ true) → a ≡ b
same_test true b f g = sym (f refl)
same_test false true f g = g refl
same_test false false f g = refl

lt_suc : (m n : ℕ) → nat_lt (suc m) (suc n) ≡ nat_lt m n
lt_suc m n = same_test (nat_lt (suc m) (suc n)) (nat_lt m n) (λ e. lt-ltb m n (omega (arith, ltb-true (suc m) (suc n) e))) (λ e. lt-ltb (suc m) (suc n) (omega (arith, ltb-true m n e)))

eq_suc : (m n : ℕ) → (suc m == suc n) ≡ (m == n)
eq_suc m n = same_test (suc m == suc n) (m == n) (λ e. eq-eqb m n (omega (arith, eqb-true (suc m) (suc n) e))) (λ e. eq-eqb (suc m) (suc n) (ap suc (eqb-true m n e)))

-- what is said of parts, with the places of those before them, the last one first
with_places : List (List ℕ) → List (List ℕ) → List (List ℕ) → List ℕ → List ℕ → Bool
with_places active p q xs ys = nat_lt (length q) (length p) || ((length p == length q) && is_greater (reverse (map (place active) p) ++ xs) (reverse (map (place active) q) ++ ys))

back_cons : (x : ℕ) (xs ys : List ℕ) → reverse (x ∷ xs) ++ ys ≡ reverse xs ++ x ∷ ys
back_cons x xs ys = ap (λ l. l ++ ys) (reverse-append (x ∷ []) xs) ∙ append_assoc (reverse xs) (x ∷ []) ys

fewer : (n : ℕ) (b : Bool) → (nat_lt (suc n) 0 || ((0 == suc n) && b)) ≡ false
fewer n b = rw (le-ltb (suc n) 0 (omega arith), ne_eqb 0 (suc n) (λ e. omega (arith, e))) refl

from_places : (active p q : List (List ℕ)) (xs ys : List ℕ) → beats_from active (is_greater xs ys) p q ≡ with_places active p q xs ys
unfolding with_places
from_places active [] [] xs ys = refl
from_places active (p ∷ ps) [] xs ys = rw (lt-ltb 0 (suc (length ps)) (omega arith)) refl
from_places active [] (q ∷ qs) xs ys = sym (fewer (length qs) (is_greater (reverse (map (place active) []) ++ xs) (reverse (map (place active) (q ∷ qs)) ++ ys)))
from_places active (p ∷ ps) (q ∷ qs) xs ys =
    let x = place active p in
    let y = place active q in
    from_places active ps qs (x ∷ xs) (y ∷ ys)
    ∙ sym (rw (lt_suc (length qs) (length ps), eq_suc (length ps) (length qs), back_cons x (map (place active) ps) xs, back_cons y (map (place active) qs) ys) refl)

pub beats_is : (active p q : List (List ℕ)) → beats_from active false p q ≡ beats active p q
unfolding with_places
beats_is active p q = from_places active p q [] [] ∙ rw (append-nil (reverse (map (place active) p)), append-nil (reverse (map (place active) q))) refl

-- a text has a part at least

more_first : (active : List (List ℕ)) (greater : Bool) (c : ℕ) (ps : List (List ℕ)) → beats_from active greater (onto_first c ps) [] ≡ true
more_first active greater c [] = refl
more_first active greater c (p ∷ ps) = refl

more : (active : List (List ℕ)) (greater : Bool) (text : List ℕ) → beats_from active greater (slice_split is_colon text) [] ≡ true
more active greater [] = refl
more active greater (c ∷ text) = elim (cases_Bool (is_colon c)) [
  | inl e ↦ rw e refl
  | inr e ↦ rw e (more_first active greater c (slice_split is_colon text))
]

less_first : (active : List (List ℕ)) (greater : Bool) (c : ℕ) (ps : List (List ℕ)) → beats_from active greater [] (onto_first c ps) ≡ false
less_first active greater c [] = refl
less_first active greater c (p ∷ ps) = refl

less : (active : List (List ℕ)) (greater : Bool) (text : List ℕ) → beats_from active greater [] (slice_split is_colon text) ≡ false
less active greater [] = refl
less active greater (c ∷ text) = elim (cases_Bool (is_colon c)) [
  | inl e ↦ rw e refl
  | inr e ↦ rw e (less_first active greater c (slice_split is_colon text))
]

-- where one text has more parts than the other

pub beats_longer : (active : List (List ℕ)) (greater : Bool) (left right part after : List ℕ) (answer : Bool) → slice_split is_colon left ≡ part ∷ slice_split is_colon after → slice_split is_colon right ≡ right ∷ []
    → beats_from active greater (slice_split is_colon left) (slice_split is_colon right) ≡ answer → true ≡ answer
beats_longer active greater left right part after answer e f h =
    let now = nat_lt (place active right) (place active part) || ((place active part == place active right) && greater) in
    sym (more active now after) ∙ sym (ap (λ p. beats_from active greater p (right ∷ [])) e) ∙ ap (beats_from active greater (slice_split is_colon left)) (sym f) ∙ h

pub beats_shorter : (active : List (List ℕ)) (greater : Bool) (left right part after : List ℕ) (answer : Bool) → slice_split is_colon left ≡ left ∷ [] → slice_split is_colon right ≡ part ∷ slice_split is_colon after
    → beats_from active greater (slice_split is_colon left) (slice_split is_colon right) ≡ answer → false ≡ answer
beats_shorter active greater left right part after answer e f h =
    let now = nat_lt (place active part) (place active left) || ((place active left == place active part) && greater) in
    sym (less active now after) ∙ sym (ap (beats_from active greater (left ∷ [])) f) ∙ ap (λ p. beats_from active greater p (slice_split is_colon right)) (sym e) ∙ h
