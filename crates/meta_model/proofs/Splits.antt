-- What stands before a character and behind it.
use Rattle.std.proofs.Common.{◌≡◌, ℕ, zero, suc, ◌+◌, ◌<◌, true, false, ◌==◌, List, [], ◌∷◌, length, take, drop, get_or, refl, Some, None, position, arith, add-one}
use Rattle.std.proofs.lemmas.List.Quantifiers.{position-Some}
use Rattle.meta_model.specs.Text.{split_at_first}
use Rattle.meta_model.proofs.Unfound.{none_before}

first_split : (c : ℕ) (xs : List ℕ) (i : ℕ) → i < length xs → (get_or xs i 0 == c) ≡ true → ((k : ℕ) → k < i → (get_or xs k 0 == c) ≡ false)
    → split_at_first c xs ≡ Some (take i xs, drop (suc i) xs)
first_split c [] i lt at before = absurd (omega arith)
first_split c (x ∷ xs) zero lt at before = rw at
first_split c (x ∷ xs) (suc i) lt at before = rw (before 0 (omega arith), first_split c xs i (omega arith) at (λ k h. before (suc k) (omega arith)))

-- a list is split at the first place of the character
pub split_at_first-some : (c : ℕ) (xs : List ℕ) (i : ℕ) → position (λ b. b == c) xs ≡ Some i → split_at_first c xs ≡ Some (take i xs, drop (i + 1) xs)
split_at_first-some c xs i e = let h = position-Some (λ b. b == c) xs i 0 e in rw add-one (first_split c xs i h.0 h.1 h.2)

no_split : (c : ℕ) (xs : List ℕ) → ((k : ℕ) → k < length xs → (get_or xs k 0 == c) ≡ false) → split_at_first c xs ≡ None
no_split c [] h = refl
no_split c (x ∷ xs) h = rw (h 0 (omega arith), no_split c xs (λ k lt. h (suc k) (omega arith)))

-- or nowhere
pub split_at_first-none : (c : ℕ) (xs : List ℕ) → position (λ b. b == c) xs ≡ None → split_at_first c xs ≡ None
split_at_first-none c xs e = no_split c xs (none_before (λ b. b == c) xs 0 e)
