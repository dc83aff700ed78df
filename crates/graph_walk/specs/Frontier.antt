-- Nodes in the order in which they are found, each once.
use Rattle.std.specs.Prelude.{◌≡◌, ℕ, ◌<◌, ◌+◌, Bool, List, [], ◌∷◌, ◌++◌, length, fold, sum_by, Option, Some, None, nat_eq, slice_index_or, slice_get, if◌then◌else◌}
use Rattle.std.specs.List.{list_any}
use Rattle.meta_model.specs.Walks.{LeadsTo}

-- the node is among those that are found
abbrev pub is_found : List ℕ → ℕ → Bool
is_found found node = list_any (nat_eq node) found

-- a node put behind those that are found, where it isn't one of them
abbrev pub with_node : List ℕ → ℕ → List ℕ
with_node found node = if is_found found node then found else found ++ node ∷ []

-- nodes put behind those that are found, one after another
abbrev pub with_nodes : List ℕ → List ℕ → List ℕ
with_nodes found nodes = fold with_node found nodes

-- a node without a number
abbrev pub free : Option ℕ → ℕ
free None = 1
free (Some number) = 0

-- the number of a node, if it has one
abbrev pub number_of : List (Option ℕ) → ℕ → Option ℕ
number_of numbers node = slice_index_or numbers node None

-- each node that is found has its place for its number, and no other node has one
pub record IsFrontier (found : List ℕ) (numbers : List (Option ℕ)) : Type 0 where
  pub numbered : (k : ℕ) → k < length found → number_of numbers (slice_index_or found k 0) ≡ Some k
  pub placed : (node k : ℕ) → number_of numbers node ≡ Some k → slice_get found k ≡ Some node

-- how many nodes are found or can be
abbrev pub room : List ℕ → List (Option ℕ) → ℕ
room found numbers = length found + sum_by free numbers

-- a list has an element
abbrev pub Has : {A : Type 0} → List A → A → Type 0
Has xs x = (k : ℕ) × (slice_get xs k ≡ Some x)

-- A search for all that some nodes lead to: what is found is led to, the starts are found, and so is all that the nodes at
-- the places before `next` lead to in one step.
pub record IsSearch (R : ℕ → ℕ → Type 0) (starts found : List ℕ) (next : ℕ) : Type 0 where
  pub reached : (v : ℕ) → Has found v → (a : ℕ) × Has starts a × LeadsTo R a v
  pub begun : (a : ℕ) → Has starts a → Has found a
  pub closed : (k v w : ℕ) → k < next → slice_get found k ≡ Some v → R v w → Has found w

-- these are, as a set, the nodes that a node leads to in one step
pub record AreNext (R : ℕ → ℕ → Type 0) (v : ℕ) (ws : List ℕ) : Type 0 where
  pub sound : (w : ℕ) → Has ws w → R v w
  pub whole : (w : ℕ) → R v w → Has ws w
