-- What a run is judged by, from the definitions of stores: names over the book after its events, and what was held when it began.
use Rattle.std.specs.Prelude.{◌≡◌, ◌≤◌, ℕ, Bool, List, Option, Some, None, Result, Ok, Err, length, take, if◌then◌else◌}
use Rattle.std.specs.List.{filter_map, slice_get}
use Rattle.outside_traits.specs.Store.{Store}
use Rattle.meta_model.specs.declared.event.Avail.{Avail}
use Rattle.meta_model.specs.declared.event.Logged.{Logged}
use Rattle.meta_model.specs.declared.event.Why.{Why}
use Rattle.meta_model.specs.declared.plan.Options.{Options}
use Rattle.meta_model.specs.declared.plan.Plan.{Plan}
use Rattle.meta_model.specs.declared.plan.PlanTask.{PlanTask}
use Rattle.meta_model.specs.CleanBuild.{Entries, Gives, Lack, clean_build, is_beyond_layout, outputs_of, task_output}
use Rattle.meta_model.specs.Layout.{Needed, layout}
use Rattle.store_model.specs.Available.{IsAvailable}
use Rattle.store_model.specs.declared.signature.EquivRow.{EquivRow}
use Rattle.store_model.specs.Signatures.{Signed, signatures}
use Rattle.tale_model.specs.History.{Clean, Course, IsLegal, gives, fails, layout_too_large}
use Rattle.tale_model.specs.Need.{IsNeed}
use Rattle.run_model.specs.Opening.{Opening}
use Rattle.run_model.specs.Books.{rows_after}

-- ---- what the clean build says of a task over its layout

abbrev pub said : Result Entries Why → Clean
said (Ok tree) = gives
said (Err cause) = fails cause

-- a task that lacks an output that it needs is never ready, so any answer does that isn't a failure
abbrev pub said_over : Gives → PlanTask → Result (List Needed) Lack → Clean
said_over run task (Err lack) = gives
said_over run task (Ok needed) =
    let laid = layout task.id.pn task.files needed in
    if is_beyond_layout laid then layout_too_large else said (task_output run task.script task.sstate task.places laid)

abbrev pub said_of : Gives → List PlanTask → Option PlanTask → Clean
said_of run tasks None = gives
said_of run tasks (Some task) = said_over run task (outputs_of (filter_map (slice_get (clean_build run tasks)) task.deps))

-- What the clean build says of the task of a number.
abbrev pub clean_says : Gives → List PlanTask → ℕ → Clean
clean_says run tasks t = said_of run tasks (slice_get tasks t)

-- ---- what is there and needed

-- Of each task of a plan it is said how it is available in a store, by its signature over these rows.
pub record IsThereOver (held : Store) (plan : Plan) (setscene : Bool) (rows : List EquivRow) (avail : List Avail) : Type 0 where
  pub long : length avail ≡ length plan.tasks
  pub each : (t : ℕ) (s : Signed) (a : Avail) → slice_get (signatures rows plan.tasks) t ≡ Some s → slice_get avail t ≡ Some a → IsAvailable held rows setscene s a

-- That of a run, after these events: in what was held when it began.
abbrev pub IsThere : Opening → Plan → Options → List Logged → List Avail → Type 0
IsThere o plan options before avail = IsThereOver o.story.held plan options.setscene (rows_after o plan before) avail

-- A course of a run: after each number of its events what is there and needed is what the definitions say.
pub record IsCourse (o : Opening) (options : Options) (tale : List Logged) (course : Course) : Type 0 where
  pub options_are : course.options ≡ options
  pub there : (k : ℕ) → k ≤ length tale → IsThere o course.plan options (take k tale) (course.avail k)
  pub needed : (k : ℕ) → k ≤ length tale → IsNeed course.plan (course.avail k) (course.need k)
  pub clean : (t : ℕ) → course.clean t ≡ clean_says o.gives course.plan.tasks t

-- The tale of a run is legal: in each course of the run each entry may follow those before it (own rule).
abbrev pub IsLegalTale : Opening → Plan → Options → List Logged → Type 0
IsLegalTale o plan options tale = (course : Course) → course.plan ≡ plan → IsCourse o options tale course → IsLegal course tale
