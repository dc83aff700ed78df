-- What is read back of the outputs that a task needs, and its job over them.
use Rattle.std.specs.Prelude.{◌≡◌, ℕ, true, false, List, Option, Some, None, Contains, map}
use Rattle.std.specs.List.{AllByRecursion, slice_get}
use Rattle.outside_traits.specs.Store.{Store}
use Rattle.meta_model.specs.declared.plan.PlanTask.{PlanTask}
use Rattle.meta_model.specs.CleanBuild.{Entries, is_beyond_layout}
use Rattle.store_model.specs.Available.{work_folder}
use Rattle.build_store.specs.Finding.{IsOutput}
use Rattle.task_worker.specs.declared.given.Job.{Job}
use Rattle.run_model.specs.Layouts.{layout_over}
use Rattle.task_worker.specs.OneTask.{placing_of}

-- the output of the task of a number was read back
abbrev pub IsRead : List PlanTask → Store → ℕ × Entries → Type 0
IsRead tasks held o = (task : PlanTask) → slice_get tasks o.0 ≡ Some task → IsOutput (work_folder task) held (Some o.1)

-- the outputs of the tasks of these numbers, in their order
pub record AreRead (tasks : List PlanTask) (numbers : List ℕ) (held : Store) (outputs : List (ℕ × Entries)) : Type 0 where
  pub numbers_are : map (λ o. o.0) outputs ≡ numbers
  pub each : AllByRecursion (IsRead tasks held) outputs

-- one of these tasks has an output beyond the limits
pub record LacksOne (tasks : List PlanTask) (numbers : List ℕ) (held : Store) : Type 0 where
  pub number : ℕ
  pub task : PlanTask
  pub among : Contains numbers number
  pub at : slice_get tasks number ≡ Some task
  pub lacks : IsOutput (work_folder task) held None

abbrev pub AreFound : List PlanTask → List ℕ → Store → Option (List (ℕ × Entries)) → Type 0
AreFound tasks numbers held (Some outputs) = AreRead tasks numbers held outputs
AreFound tasks numbers held None = LacksOne tasks numbers held

-- the job of a task: its script over the layout of what was read back
pub record IsJobOf (tasks : List PlanTask) (task : PlanTask) (held : Store) (job : Job) : Type 0 where
  pub outputs : List (ℕ × Entries)
  pub read : AreRead tasks task.deps held outputs
  pub is_script : job.script ≡ task.script
  pub is_laid : job.layout ≡ layout_over tasks task outputs
  pub is_placing : job.placing ≡ placing_of task
  pub within : is_beyond_layout job.layout ≡ false

-- the job over these outputs; nothing where the layout is beyond the limits
abbrev pub IsOver : List PlanTask → PlanTask → List (ℕ × Entries) → Option Job → Type 0
IsOver tasks task outputs (Some job) = (job.script ≡ task.script) × (job.layout ≡ layout_over tasks task outputs) × (job.placing ≡ placing_of task) × (is_beyond_layout job.layout ≡ false)
IsOver tasks task outputs None = is_beyond_layout (layout_over tasks task outputs) ≡ true

-- the layout is beyond the limits, or an output of those that it is made from
pub data IsTooLarge (tasks : List PlanTask) (task : PlanTask) (held : Store) : Type 0 where
  output : LacksOne tasks task.deps held → IsTooLarge tasks task held
  laid : (outputs : List (ℕ × Entries)) → AreRead tasks task.deps held outputs → is_beyond_layout (layout_over tasks task outputs) ≡ true → IsTooLarge tasks task held

-- a task's job; nothing where its layout is too large
abbrev pub Finds : List PlanTask → PlanTask → Store → Option Job → Type 0
Finds tasks task held (Some job) = IsJobOf tasks task held job
Finds tasks task held None = IsTooLarge tasks task held
