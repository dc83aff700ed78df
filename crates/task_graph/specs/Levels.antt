-- The depths of the tasks that targets reach, by their places.
use Rattle.std.specs.Prelude.{◌≡◌, ℕ, ◌<◌, List, All, length, slice_index}
use Rattle.meta_model.specs.declared.facts.FactSet.{FactSet}
use Rattle.meta_model.specs.declared.facts.Target.{Target}
use Rattle.meta_model.specs.Walks.{IsDepth}
use Rattle.meta_model.specs.Needs.{Task, Needs}
use Rattle.graph_walk.specs.declared.depth.Depths.{Depths}
use Rattle.graph_walk.specs.declared.depth.Depths.TheVariants.{Found, Cycle}
use Rattle.task_graph.specs.declared.table.TaskTable.{TaskTable}
use Rattle.task_graph.specs.Reached.{StandsAt, HasTaskCycle}

-- each place has the depth of the task that stands there
pub record HasTaskDepths (facts : FactSet) (table : TaskTable) (found depths : List ℕ) : Type 0 where
  pub long : length depths ≡ length found
  pub each : (i : ℕ) (a : Task) → StandsAt table found i a → IsDepth (Needs facts) a (slice_index depths i)
  pub small : All (λ depth. depth < 65536) depths

-- the depths of all tasks, or a cycle
abbrev pub AreLevels : FactSet → TaskTable → List Target → List ℕ → Depths → Type 0
AreLevels facts table targets found (Found depths) = HasTaskDepths facts table found depths.items
AreLevels facts table targets found (Cycle nodes) = HasTaskCycle facts table targets found nodes.items
