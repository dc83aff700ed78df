-- The order of versions (own rule).
use Rattle.std.specs.Prelude.{◌≡◌, ℕ, ◌+◌, ◌*◌, ◌-◌, List, [], ◌∷◌, ◌++◌, map, fold, ◌==◌, if◌then◌else◌}
use Rattle.std.specs.Char.{is_ascii_digit, is_ascii_alphabetic}
use Rattle.std.specs.Ordering.{nat_cmp, on, then_cmp}
use Rattle.std.specs.Cmp.{IsTotalOrder}
use Rattle.std.specs.Cmp.Lexicographic.{slice_cmp}
use Rattle.std.specs.declared.cmp.Ordering.{Ordering}
use Rattle.std.specs.declared.cmp.Ordering.TheVariants.{Equal}

-- What a version is cut into: `~`, a run of digits, a run of letters, or another single character. Each byte of a character
-- that isn't ASCII stands alone, which orders such characters by their bytes.
pub data Piece : Type 0 where
  tilde : Piece
  digits : List ℕ → Piece
  letters : List ℕ → Piece
  other : ℕ → Piece

-- a digit before pieces: it belongs to the run of digits that they begin with, where they do
abbrev pub digit_before : ℕ → List Piece → List Piece
digit_before c (digits run ∷ pieces) = digits (c ∷ run) ∷ pieces
digit_before c pieces = digits (c ∷ []) ∷ pieces

-- the same for a letter
abbrev pub letter_before : ℕ → List Piece → List Piece
letter_before c (letters run ∷ pieces) = letters (c ∷ run) ∷ pieces
letter_before c pieces = letters (c ∷ []) ∷ pieces

abbrev pub single : ℕ → Piece
single c = if c == 126 then tilde else other c

abbrev pub put_before : ℕ → List Piece → List Piece
put_before c pieces =
    if is_ascii_digit c then digit_before c pieces
    else (if is_ascii_alphabetic c then letter_before c pieces
    else single c ∷ pieces)

-- the pieces of a version
abbrev pub pieces_of : List ℕ → List Piece
pieces_of [] = []
pieces_of (c ∷ version) = put_before c (pieces_of version)

-- the number that a run of digits spells
abbrev pub number_of : List ℕ → ℕ
number_of run = fold (λ n c. n * 10 + (c - 48)) 0 run

-- What orders pieces, as a list of numbers that is compared from its front: the rank of the piece's kind, and behind it what
-- decides between two of one kind. Digits count by their value, letters and other characters by their bytes.
abbrev pub weight : Piece → List ℕ
weight tilde = 0 ∷ []
weight (digits run) = 2 ∷ (number_of run ∷ [])
weight (letters run) = 3 ∷ run
weight (other c) = 4 ∷ (c ∷ [])

-- The end of a version ranks behind `~` and before all other pieces, so `1.0~rc1` is less than `1.0`, and `1.0` less than
-- `1.0.1`.
abbrev pub end_weight : List ℕ
end_weight = 1 ∷ []

abbrev pub weights_of : List ℕ → List (List ℕ)
weights_of version = map weight (pieces_of version) ++ (end_weight ∷ [])

-- The order of versions: the first pieces that differ decide; where none differ, as in `1.0` and `1.00`, the bytes of the
-- whole texts do.
abbrev pub version_cmp : List ℕ → List ℕ → Ordering
version_cmp = then_cmp (on weights_of (slice_cmp (slice_cmp nat_cmp))) (slice_cmp nat_cmp)

-- It is a total order, in which no two versions are equal.
pub record IsVersionOrder : Type 0 where
  pub total : IsTotalOrder version_cmp
  pub apart : (a b : List ℕ) → version_cmp a b ≡ Equal → a ≡ b
