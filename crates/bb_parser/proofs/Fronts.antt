-- What stands before the first element that passes a test.
use Rattle.std.proofs.Common.{◌≡◌, ℕ, suc, ◌+◌, ◌<◌, Bool, true, false, cond, not, ◌==◌, ltb, List, [], ◌∷◌, length, take, drop, refl, sym, ap, one-add, ◌∙◌, Some, None, position, arith}
use Rattle.std.proofs.lemmas.Bool.{ltb-true, ltb-false, ne_eqb}
use Rattle.std.proofs.lemmas.List.{take_all}
use Rattle.std.proofs.lemmas.List.Splits.{slice_split_first}
use Rattle.std.proofs.lemmas.List.Sums.{prefix_len-le-length}
use Rattle.std.specs.List.{position_or_len, before_first, slice_split}
use Rattle.meta_model.specs.Text.{is_empty}

pub empty_by_length : {A : Type 0} (xs : List A) → (length xs == 0) ≡ is_empty xs
empty_by_length [] = refl
empty_by_length (x ∷ xs) = ne_eqb (suc (length xs)) 0 (λ e. omega arith)

cond-some : (b : Bool) (n i : ℕ) → cond b (Some n) None ≡ Some i → (b ≡ true) × (n ≡ i)
cond-some true n i e = (refl, cc)
cond-some false n i e = cc

cond-none : (b : Bool) (n : ℕ) → cond b (Some n) None ≡ None → b ≡ false
cond-none true n e = cc
cond-none false n e = refl

-- a place is the first place, and one of the list
pub place-some : {A : Type 0} (p : A → Bool) (xs : List A) (i : ℕ) → position p xs ≡ Some i → (i < length xs) × (position_or_len p xs ≡ i)
place-some p xs i e = let h = cond-some (ltb (position_or_len p xs) (length xs)) (position_or_len p xs) i e in
    (rw (sym h.1) (ltb-true (position_or_len p xs) (length xs) h.0), h.1)

pub place-none : {A : Type 0} (p : A → Bool) (xs : List A) → position p xs ≡ None → position_or_len p xs ≡ length xs
place-none p xs e =
    let h = ltb-false (position_or_len p xs) (length xs) (cond-none (ltb (position_or_len p xs) (length xs)) (position_or_len p xs) e) in
    let k = prefix_len-le-length (λ x. not (p x)) xs in omega arith

pub before_first-some : {A : Type 0} (p : A → Bool) (xs : List A) (i : ℕ) → position p xs ≡ Some i → before_first p xs ≡ take i xs
before_first-some p xs i e = ap (λ n. take n xs) (place-some p xs i e).1

pub before_first-none : {A : Type 0} (p : A → Bool) (xs : List A) → position p xs ≡ None → before_first p xs ≡ xs
before_first-none p xs e = ap (λ n. take n xs) (place-none p xs e) ∙ take_all (length xs) xs (omega arith)

-- with what comes behind it, the first part of a list that is split
pub split-head : {A : Type 0} (p : A → Bool) (xs : List A) → slice_split p xs ≡ before_first p xs ∷ drop 1 (slice_split p xs)
split-head p [] = refl
split-head p (x ∷ xs) = by_case (p x) refl (split-head p xs)
  where
    by_case : (b : Bool) → p x ≡ b → slice_split p xs ≡ before_first p xs ∷ drop 1 (slice_split p xs) → slice_split p (x ∷ xs) ≡ before_first p (x ∷ xs) ∷ drop 1 (slice_split p (x ∷ xs))
    by_case true e h = rw e refl
    by_case false e h = rw (e, one-add, h) refl

-- without that part, the list behind it is split
pub split-rest : {A : Type 0} (p : A → Bool) (xs : List A) (d : A) (i : ℕ) → position p xs ≡ Some i → drop 1 (slice_split p xs) ≡ slice_split p (drop (i + 1) xs)
split-rest p xs d i e = let h = place-some p xs i e in
    ap (drop 1) (slice_split_first p xs d (rw h.1 h.0)) ∙ ap (λ n. slice_split p (drop (n + 1) xs)) h.1

pub split-none : {A : Type 0} (p : A → Bool) (xs : List A) → position_or_len p xs ≡ length xs → drop 1 (slice_split p xs) ≡ []
split-none p [] e = refl
split-none p (x ∷ xs) e = by_case (p x) refl (λ k. split-none p xs k)
  where
    by_case : (b : Bool) → p x ≡ b → (position_or_len p xs ≡ length xs → drop 1 (slice_split p xs) ≡ []) → drop 1 (slice_split p (x ∷ xs)) ≡ []
    by_case true t f = absurd (omega (arith, rw t at e))
    by_case false t f = rw (t, split-head p xs, f (omega (arith, rw t at e))) refl
