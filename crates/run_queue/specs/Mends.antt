-- Restorings that are open in a run, beside its publications. (Own rules.)
use Rattle.std.specs.Prelude.{◌≡◌, ℕ, List, Contains, Option, Some, false, length}
use Rattle.std.specs.List.{slice_get}
use Rattle.std.specs.Option.{option_or}
use Rattle.meta_model.specs.declared.event.Avail.{Avail}
use Rattle.meta_model.specs.declared.event.Avail.TheVariants.{Object}
use Rattle.meta_model.specs.declared.event.Logged.{Logged}
use Rattle.meta_model.specs.declared.plan.Plan.{Plan}
use Rattle.tale_model.specs.declared.fate.Fate.TheVariants.{Waiting}
use Rattle.tale_model.specs.Fates.{fate_at, fates_told, is_running}
use Rattle.store_model.specs.declared.signature.EquivRow.{EquivRow}
use Rattle.store_model.specs.Available.{task_folder}
use Rattle.store_model.specs.Signatures.{Signed, signatures}
use Rattle.build_store.specs.Publication.{IsObjectOf}
use Rattle.build_store.specs.View.{unshared}
use Rattle.run_model.specs.Opening.{Opening}
use Rattle.run_queue.specs.Flights.{OpenTask, OpenTasks}

-- what a store has open: publications, and restorings
abbrev pub both : OpenTasks → OpenTasks → OpenTasks
both opened mends folder = option_or (opened folder) (mends folder)

-- A restoring that is open is of a task of the plan that is in hand and waits, and whose output was there as an object; it is at the task's folder. What is
-- put is the object that the task had, by its signature over the rows, when the run began; as for a task whose output is kept as no object.
pub record IsMend (o : Opening) (plan : Plan) (rows : List EquivRow) (begun : List (Option Avail)) (tale : List Logged) (restoring : List ℕ) (folder : List ℕ) (one : OpenTask) : Type 0 where
  pub number : ℕ
  pub among : Contains restoring number
  pub waits : fate_at (fates_told (length plan.tasks) tale) number ≡ Waiting
  pub begins : slice_get begun number ≡ Some (Some Object)
  pub own : Signed
  pub signed : slice_get (signatures rows plan.tasks) number ≡ Some own
  pub folder_is : folder ≡ task_folder own.task
  pub puts : one.signed ≡ unshared own
  pub row : EquivRow
  pub object : IsObjectOf o.story.held rows own row one.tree

-- So is each that is open; and no task in hand runs.
pub record AreMends (o : Opening) (plan : Plan) (rows : List EquivRow) (begun : List (Option Avail)) (tale : List Logged) (restoring : List ℕ) (mends : OpenTasks) : Type 0 where
  pub each : (folder : List ℕ) (one : OpenTask) → mends folder ≡ Some one → IsMend o plan rows begun tale restoring folder one
  pub rest : (t : ℕ) → Contains restoring t → is_running (fate_at (fates_told (length plan.tasks) tale) t) ≡ false
