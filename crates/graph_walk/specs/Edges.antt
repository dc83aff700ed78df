-- A graph whose nodes are numbers, by the list of each node's dependencies.
use Rattle.std.specs.Prelude.{ℕ, ◌<◌, List, [], All, Contains, length, slice_index_or}

-- the dependencies of a node
abbrev pub edges_from : List (List ℕ) → ℕ → List ℕ
edges_from edges v = slice_index_or edges v []

-- a node needs another one
abbrev pub HasEdge : List (List ℕ) → ℕ → ℕ → Type 0
HasEdge edges v w = Contains (edges_from edges v) w

-- each dependency is a node
abbrev pub AreWithin : List (List ℕ) → Type 0
AreWithin edges = All (λ ws. All (λ w. w < length edges) ws) edges
