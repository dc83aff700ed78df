-- Paths as lists of bytes: parts between single slashes.
use Rattle.std.specs.Prelude.{◌≡◌, ◌≢◌, ◌≤◌, ◌<◌, ◌⊎◌, ℕ, false, List, [], ◌∷◌, ◌++◌, length, ◌==◌, All, Contains}
use Rattle.std.specs.List.{slice_split}
use Rattle.std.specs.Ordering.{nat_cmp, is_lt}
use Rattle.std.specs.Cmp.Lexicographic.{slice_cmp}
use Rattle.std.specs.declared.cmp.Ordering.TheVariants.{Less}

-- One part of a clean path: 1 to 255 bytes, neither `.` nor `..`, and no zero byte (own rule).
pub record IsPart (part : List ℕ) : Type 0 where
  pub not_empty : 0 < length part
  pub short : length part ≤ 255
  pub not_here : part ≢ 46 ∷ []
  pub not_above : part ≢ 46 ∷ 46 ∷ []
  pub no_zero : Contains part 0 → ⊥

-- The parts between the slashes.
abbrev pub parts_of : List ℕ → List (List ℕ)
parts_of path = slice_split (λ b. b == 47) path

-- A clean path names a place inside a folder: at most 4,096 bytes, and each of its parts is one (own rule).
-- So it is not empty, begins and ends with no slash, and has no two slashes side by side.
pub record IsClean (path : List ℕ) : Type 0 where
  pub short : length path ≤ 4096
  pub parts : All IsPart (parts_of path)

-- The path of a place that lies in a folder.
abbrev pub inside : List ℕ → List ℕ → List ℕ
inside folder path = folder ++ 47 ∷ path

-- The second path lies somewhere below the first: the first is a proper ancestor of the second.
abbrev pub IsBelow : List ℕ → List ℕ → Type 0
IsBelow folder path = (rest : List ℕ) × (path ≡ inside folder rest)

-- The second path is the first or lies below it.
abbrev pub IsAtOrBelow : List ℕ → List ℕ → Type 0
IsAtOrBelow folder path = (path ≡ folder) ⊎ IsBelow folder path

-- The text begins with the prefix, byte for byte; a prefix may end in the middle of a part.
abbrev pub BeginsWith : List ℕ → List ℕ → Type 0
BeginsWith prefix path = (rest : List ℕ) × (path ≡ prefix ++ rest)

-- The first path comes before the second in the order of bytes.
abbrev pub IsBefore : List ℕ → List ℕ → Type 0
IsBefore a b = slice_cmp nat_cmp a b ≡ Less

-- The first path is the second or comes before it in the order of bytes.
abbrev pub IsUpTo : List ℕ → List ℕ → Type 0
IsUpTo a b = is_lt (slice_cmp nat_cmp b a) ≡ false
