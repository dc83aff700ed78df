-- Laws of the first line of a text.
use Rattle.std.proofs.Common.{◌≡◌, ℕ, zero, suc, ◌+◌, ◌<◌, true, false, ◌==◌, List, [], ◌∷◌, length, take, drop, get_or, Some, None, position, arith, add-one}
use Rattle.std.proofs.lemmas.List.Quantifiers.{position-Some}
use Rattle.std.proofs.lemmas.Bool.{eqb-true}
use Rattle.meta_model.proofs.Unfound.{none_before}
use Rattle.meta_model.specs.Text.{newline}
use Rattle.meta_model.specs.Lines.{pieces}

-- the first newline ends the first line
first_line : (bs : List ℕ) (i : ℕ) → i < length bs → (get_or bs i 0 == newline) ≡ true → ((k : ℕ) → k < i → (get_or bs k 0 == newline) ≡ false)
    → pieces bs ≡ take i bs ∷ pieces (drop (suc i) bs)
first_line [] i lt at before = absurd (omega arith)
first_line (b ∷ bs) zero lt at before = rw at
first_line (b ∷ bs) (suc i) lt at before = rw (before 0 (omega arith), first_line bs i (omega arith) at (λ k h. before (suc k) (omega arith)))

pub pieces-newline : (bs : List ℕ) (i : ℕ) → position (λ b. b == newline) bs ≡ Some i → pieces bs ≡ take i bs ∷ pieces (drop (i + 1) bs)
pieces-newline bs i e = let h = position-Some (λ b. b == newline) bs i 0 e in rw add-one (first_line bs i h.0 h.1 h.2)

one_line : (b : ℕ) (bs : List ℕ) → ((k : ℕ) → k < suc (length bs) → (get_or (b ∷ bs) k 0 == newline) ≡ false) → pieces (b ∷ bs) ≡ (b ∷ bs) ∷ []
one_line b [] h = rw (h 0 (omega arith))
one_line b (c ∷ bs) h = rw (h 0 (omega arith), one_line c bs (λ k lt. h (suc k) (omega arith)))

pub pieces-last : (bs : List ℕ) → 0 < length bs → position (λ b. b == newline) bs ≡ None → pieces bs ≡ bs ∷ []
pieces-last [] h e = absurd (omega arith)
pieces-last (b ∷ bs) h e = one_line b bs (none_before (λ c. c == newline) (b ∷ bs) 0 e)

-- the first newline's place has a newline
pub newline_there : (bs : List ℕ) (i : ℕ) → position (λ b. b == newline) bs ≡ Some i → (i < length bs) × (get_or bs i 0 ≡ newline)
newline_there bs i e = let h = position-Some (λ b. b == newline) bs i 0 e in (h.0, eqb-true (get_or bs i 0) newline h.1)
