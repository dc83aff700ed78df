-- What the clean build has of a task, by what is laid out and given for it.
use Rattle.std.specs.Prelude.{◌≡◌, ◌<◌, ℕ, true, false, List, Some, Err, map}
use Rattle.std.specs.List.{slice_get, AllByRecursion}
use Rattle.meta_model.specs.declared.event.Why.TheVariants as why
use Rattle.meta_model.specs.declared.plan.PlanTask.{PlanTask}
use Rattle.meta_model.specs.CleanBuild.{Entries, Gives, by_itself, is_beyond_layout, task_output}
use Rattle.run_model.specs.Layouts.{layout_over}
use Rattle.run_model.specs.CleanOutputs.{Has, AreClean}
use Rattle.task_worker.specs.declared.given.Job.{Job}
use Rattle.task_worker.specs.declared.given.Placing.{Placing}
use Rattle.task_worker.specs.Jobs.{job_output}

-- Of a task that needs earlier tasks alone, the clean build has what its script gives over the layout of their clean outputs.
abbrev pub OneTask : Type 0
OneTask = (gives : Gives) (tasks : List PlanTask) (n : ℕ) (task : PlanTask) (outputs : List (ℕ × Entries)) → slice_get tasks n ≡ Some task → AllByRecursion (λ d. d < n) task.deps → map (λ o. o.0) outputs ≡ task.deps → AreClean gives tasks outputs
    → Has gives tasks n (by_itself (task_output gives task.script task.sstate task.places (layout_over tasks task outputs)))

-- whose work it is, and how a task's output is taken
abbrev pub placing_of : PlanTask → Placing
placing_of task = record { id = task.id; sstate = task.sstate; places = task.places }

-- the job of a task over a layout
abbrev pub job_of : ℕ → PlanTask → Entries → Job
job_of n task laid = record { task = n; script = task.script; layout = laid; placing = placing_of task }

-- That is what the task's job gives, where the layout is within its limits, and else too large.
abbrev pub OneJob : Type 0
OneJob = (gives : Gives) (n : ℕ) (task : PlanTask) (laid : Entries) → is_beyond_layout laid ≡ false → task_output gives task.script task.sstate task.places laid ≡ job_output gives (job_of n task laid)

abbrev pub NoJob : Type 0
NoJob = (gives : Gives) (task : PlanTask) (laid : Entries) → is_beyond_layout laid ≡ true → task_output gives task.script task.sstate task.places laid ≡ Err why.TooLarge
