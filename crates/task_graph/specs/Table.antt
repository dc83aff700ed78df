-- Where tasks stand among the facts, and how they are looked up.
use Rattle.std.specs.Prelude.{◌≡◌, ℕ, ◌+◌, ◌<◌, Bool, List, length, Option, Some, bytes_eq, slice_get}
use Rattle.std.specs.Option.{option_and_then}
use Rattle.std.specs.HashMap.{get_by_text}
use Rattle.meta_model.specs.declared.facts.FactSet.{FactSet}
use Rattle.meta_model.specs.declared.facts.RecipeFacts.{RecipeFacts}
use Rattle.meta_model.specs.declared.facts.TaskFacts.{TaskFacts}
use Rattle.meta_model.specs.Needs.{Task}
use Rattle.task_graph.specs.declared.table.Spot.{Spot}
use Rattle.task_graph.specs.declared.table.TaskTable.{TaskTable}
use Rattle.task_graph.specs.Only.{first_place}

-- the task has this name
abbrev pub has_name : List ℕ → TaskFacts → Bool
has_name name t = bytes_eq t.task name

-- the tasks of a recipe have the numbers from `base` on, and the map has the first of each name
pub record HasTasks (spots : List Spot) (recipe base : ℕ) (tasks : List TaskFacts) (find : List ℕ → Option ℕ) : Type 0 where
  pub named : (q : List ℕ) → find q ≡ first_place (has_name q) base tasks
  pub placed : (i : ℕ) → i < length tasks → slice_get spots (base + i) ≡ Some (record { recipe = recipe; place = i })

-- the number of a task
abbrev pub number_of_task : TaskTable → Task → Option ℕ
number_of_task table a = option_and_then (λ places. get_by_text places a.1) (slice_get table.places.items a.0)

-- each recipe's tasks have numbers in a row, and are found by the recipe's number and their names
pub record IsTable (facts : FactSet) (table : TaskTable) : Type 0 where
  pub long : length table.places.items ≡ length facts.recipes
  pub each : (r : ℕ) (recipe : RecipeFacts) → slice_get facts.recipes r ≡ Some recipe → (base : ℕ) × HasTasks table.spots.items r base recipe.tasks (λ q. number_of_task table (r, q))

-- what stood at a place stands there still
abbrev pub KeepsSpots : List Spot → List Spot → Type 0
KeepsSpots old new = (k : ℕ) (s : Spot) → slice_get old k ≡ Some s → slice_get new k ≡ Some s
