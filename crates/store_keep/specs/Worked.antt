-- A worked case: five records, of which the second is the root.
use Rattle.std.specs.Prelude.{ℕ, Bool, true, false, List, [], ◌∷◌}

abbrev pub edges : List (List ℕ)
edges = [] ∷ ((0 ∷ []) ∷ ((1 ∷ []) ∷ ([] ∷ ((3 ∷ []) ∷ []))))

abbrev pub roots : List Bool
roots = false ∷ (true ∷ (false ∷ (false ∷ (false ∷ []))))

-- the others in the order in which they are tried
abbrev pub order : List ℕ
order = 4 ∷ (2 ∷ (3 ∷ []))
