-- Which tasks are ready, and when nothing is left to do, by the fates of the tasks.
use Rattle.std.specs.Prelude.{◌≡◌, ℕ, Bool, true, false, ◌⊎◌, List, All, Contains, slice_get, Some}
use Rattle.meta_model.specs.Walks.{LeadsTo}
use Rattle.meta_model.specs.declared.event.Avail.{Avail}
use Rattle.meta_model.specs.declared.event.Avail.TheVariants.{Missing}
use Rattle.meta_model.specs.declared.plan.PlanTask.{PlanTask}
use Rattle.meta_model.specs.declared.plan.Options.{Options}
use Rattle.tale_model.specs.declared.fate.Fate.{Fate}
use Rattle.tale_model.specs.declared.fate.Fate.TheVariants.{Waiting, Failed}
use Rattle.tale_model.specs.Fates.{fate_at, is_settled, NoneRuns, HoldsFailure}
use Rattle.tale_model.specs.Need.{deps_of, IsIn}

-- A task is ready: it is needed and waits, its output is missing, and all tasks that it needs directly are settled.
pub record IsReady (tasks : List PlanTask) (need : List Bool) (avail : List Avail) (fates : List Fate) (t : ℕ) : Type 0 where
  pub needed : IsIn need t
  pub waits : fate_at fates t ≡ Waiting
  pub missing : slice_get avail t ≡ Some Missing
  pub settled : All (λ d. is_settled (fate_at fates d) ≡ true) (deps_of tasks t)

-- nothing new begins after a failure, except with `keep_going`
abbrev pub GoesOn : Options → List Fate → Type 0
GoesOn options fates = options.keep_going ≡ false → HoldsFailure fates → ⊥

-- the task waits for its missing output and needs d directly
pub record WaitsOn (tasks : List PlanTask) (avail : List Avail) (fates : List Fate) (t d : ℕ) : Type 0 where
  pub waits : fate_at fates t ≡ Waiting
  pub missing : slice_get avail t ≡ Some Missing
  pub needs : Contains (deps_of tasks t) d

-- a task failed, or waits on tasks that wait .. on one that failed
abbrev pub IsHeldUp : List PlanTask → List Avail → List Fate → ℕ → Type 0
IsHeldUp tasks avail fates t = (f : ℕ) × LeadsTo (WaitsOn tasks avail fates) t f × (fate_at fates f ≡ Failed)

-- nothing is left to do for a task: it is settled or, with `keep_going`, a failure holds it up
abbrev pub IsOver : Options → List PlanTask → List Avail → List Fate → ℕ → Type 0
IsOver options tasks avail fates t = (is_settled (fate_at fates t) ≡ true) ⊎ ((options.keep_going ≡ true) × IsHeldUp tasks avail fates t)

-- the run is finished: no task runs, and nothing is left to do for any needed one
pub record IsFinished (options : Options) (tasks : List PlanTask) (need : List Bool) (avail : List Avail) (fates : List Fate) : Type 0 where
  pub rests : NoneRuns fates
  pub over : (t : ℕ) → IsIn need t → IsOver options tasks avail fates t
