-- Counting.
use Rattle.std.specs.Prelude.{ℕ, ◌+◌, List, [], ◌∷◌, Bool, true, false}

-- 1 where the test holds, else 0
abbrev pub once : Bool → ℕ
once true = 1
once false = 0

-- the sum of f over the list
abbrev pub total : {A : Type 0} → (A → ℕ) → List A → ℕ
total f [] = 0
total f (x ∷ xs) = f x + total f xs
