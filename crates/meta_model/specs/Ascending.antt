-- Texts that ascend.
use Rattle.std.specs.Prelude.{◌≡◌, ℕ, List, [], ◌∷◌, ⊤}
use Rattle.std.specs.Cmp.Lexicographic.{slice_cmp}
use Rattle.std.specs.Ordering.{nat_cmp}
use Rattle.std.specs.declared.cmp.Ordering.TheVariants.{Less}

-- the first text comes before the second
abbrev pub Before : List ℕ → List ℕ → Type 0
Before x y = slice_cmp nat_cmp x y ≡ Less

-- a text comes before all of these
abbrev pub Above : List ℕ → List (List ℕ) → Type 0
Above x [] = ⊤
Above x (y ∷ ys) = (Before x y) × Above x ys

-- each text comes before those after it
abbrev pub Ascending : List (List ℕ) → Type 0
Ascending [] = ⊤
Ascending (x ∷ xs) = Above x xs × Ascending xs
