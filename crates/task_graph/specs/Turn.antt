-- A cycle from its least task on.
use Rattle.std.specs.Prelude.{◌≡◌, ℕ, ◌<◌, List, ◌++◌, length, take, drop, Some, All, slice_get}
use Rattle.std.specs.List.{AllZip}
use Rattle.std.specs.declared.cmp.Ordering.TheVariants.{Greater}
use Rattle.meta_model.specs.declared.facts.FactSet.{FactSet}
use Rattle.meta_model.specs.declared.facts.TaskId.{TaskId}
use Rattle.meta_model.specs.Needs.{Task}
use Rattle.meta_model.specs.TaskGraph.{id_of, id_cmp}
use Rattle.task_graph.specs.declared.table.TaskTable.{TaskTable}
use Rattle.task_graph.specs.Reached.{StandsAt}

-- the task at a place, as it is written
abbrev pub IsIdAt : FactSet → TaskTable → List ℕ → ℕ → TaskId → Type 0
IsIdAt facts table found place id = (a : Task) → StandsAt table found place a → id ≡ id_of facts a

-- none of the tasks is less
abbrev pub IsLeast : List TaskId → TaskId → Type 0
IsLeast ids first = All (λ id. id_cmp first id ≡ Greater → ⊥) ids

-- The tasks at places, begun at the least one: those from its place on, and then those before it.
pub record IsTurned (facts : FactSet) (table : TaskTable) (found places : List ℕ) (turned : List TaskId) : Type 0 where
  pub ids : List TaskId
  pub turn : ℕ
  pub written : AllZip (IsIdAt facts table found) places ids
  pub within : turn < length ids
  pub turns : turned ≡ drop turn ids ++ take turn ids
  pub least : (first : TaskId) → slice_get ids turn ≡ Some first → IsLeast ids first
