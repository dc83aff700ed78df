-- The recipes that a recipe leads to, by numbers.
use Rattle.std.specs.Prelude.{◌≡◌, ℕ, ◌<◌, true, List, [], ◌++◌, length, All, slice_get}
use Rattle.std.specs.Option.{option_map_or}
use Rattle.meta_model.specs.Walks.{LeadsTo}
use Rattle.task_graph.specs.declared.needed.Needed.{Needed}
use Rattle.graph_walk.specs.Frontier.{is_found, Has}

-- all that a recipe needs
abbrev pub edges_of : List Needed → ℕ → List ℕ
edges_of all recipe = option_map_or (λ needed. needed.building.found.items ++ needed.running.found.items) (slice_get all recipe) []

-- a recipe needs another one
abbrev pub RecipeEdge : List Needed → ℕ → ℕ → Type 0
RecipeEdge all m n = is_found (edges_of all m) n ≡ true

-- the numbers are those of recipes
abbrev pub AreNumbersWithin : List Needed → Type 0
AreNumbersWithin all = (r : ℕ) → All (λ n. n < length all) (edges_of all r)

-- these are, as a set, the recipes that a recipe leads to
pub record AreRecipesFrom (all : List Needed) (recipe : ℕ) (found : List ℕ) : Type 0 where
  pub sound : (n : ℕ) → Has found n → LeadsTo (RecipeEdge all) recipe n
  pub whole : (n : ℕ) → LeadsTo (RecipeEdge all) recipe n → Has found n
