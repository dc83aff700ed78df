-- Which tales of a run are legal.
use Rattle.std.specs.Prelude.{◌≡◌, ◌≢◌, ℕ, Bool, ◌⊎◌, List, length, take, slice_get, Some}
use Rattle.meta_model.specs.declared.event.Avail.{Avail}
use Rattle.meta_model.specs.declared.event.Avail.TheVariants.{Work, Object}
use Rattle.meta_model.specs.declared.event.Event.{Event}
use Rattle.meta_model.specs.declared.event.Event.TheVariants as events
use Rattle.meta_model.specs.declared.event.Logged.{Logged}
use Rattle.meta_model.specs.declared.event.Why.{Why}
use Rattle.meta_model.specs.declared.event.Why.TheVariants as why
use Rattle.meta_model.specs.declared.plan.Options.{Options}
use Rattle.meta_model.specs.declared.plan.Plan.{Plan}
use Rattle.meta_model.specs.declared.plan.PlanTask.{PlanTask}
use Rattle.tale_model.specs.declared.fate.Fate.{Fate}
use Rattle.tale_model.specs.declared.fate.Fate.TheVariants.{Waiting, Running}
use Rattle.tale_model.specs.Fates.{fate_at, fates_told, IsFree}
use Rattle.tale_model.specs.Need.{IsIn}
use Rattle.tale_model.specs.Choice.{IsReady, GoesOn}

-- What the clean build says of a task over its layout: it gives a tree, its run fails so, or the layout itself is beyond the
-- limits.
pub data Clean : Type 0 where
  gives : Clean
  fails : (cause : Why) → Clean
  layout_too_large : Clean

-- What a run is judged by: its plan and options, after each number of events which tasks are needed and which outputs are
-- there, and what the clean build says of each task.
pub record Course : Type 0 where
  pub plan : Plan
  pub options : Options
  pub need : ℕ → List Bool
  pub avail : ℕ → List Avail
  pub clean : ℕ → Clean

-- Which event a seat may mark, by the fates so far. Found and restored are needed tasks whose output is there. Started are
-- ready tasks, each under the seat that marks it, while no other task runs under that seat; a ready task whose layout is too
-- large fails. A running task ends or fails as the clean build says, or breaks off, each time marked by its own seat. After a
-- failure nothing new begins, except with `keep_going`.
abbrev pub MayMark : Options → List PlanTask → List Bool → List Avail → (ℕ → Clean) → List Fate → ℕ → Event → Type 0
MayMark options tasks need avail clean fates seat (events.Found t) = IsIn need t × (fate_at fates t ≡ Waiting) × (slice_get avail t ≡ Some Work) × GoesOn options fates
MayMark options tasks need avail clean fates seat (events.Restored t) = IsIn need t × (fate_at fates t ≡ Waiting) × (slice_get avail t ≡ Some Object) × GoesOn options fates
MayMark options tasks need avail clean fates seat (events.Started t own) = IsReady tasks need avail fates t × (clean t ≢ layout_too_large) × (own ≡ seat) × IsFree fates own × GoesOn options fates
MayMark options tasks need avail clean fates seat (events.Ended t) = (fate_at fates t ≡ Running seat) × (clean t ≡ gives)
MayMark options tasks need avail clean fates seat (events.Failed t cause) =
    ((fate_at fates t ≡ Running seat) × (clean t ≡ fails cause))
    ⊎ (IsReady tasks need avail fates t × (clean t ≡ layout_too_large) × (cause ≡ why.TooLarge) × GoesOn options fates)
MayMark options tasks need avail clean fates seat (events.Broke t cut) = fate_at fates t ≡ Running seat

-- each entry of a tale stands in this relation to those before it
abbrev pub EachAfter : (List Logged → Logged → Type 0) → List Logged → Type 0
EachAfter R tale = (k : ℕ) (entry : Logged) → slice_get tale k ≡ Some entry → R (take k tale) entry

-- the fates after these entries
abbrev pub fates_in : Course → List Logged → List Fate
fates_in course before = fates_told (length course.plan.tasks) before

-- an entry may follow those before it
abbrev pub MayCome : Course → List Logged → Logged → Type 0
MayCome course before entry = MayMark course.options course.plan.tasks (course.need (length before)) (course.avail (length before)) course.clean (fates_in course before) entry.seat entry.event

-- A tale is legal where each entry may follow those before it.
abbrev pub IsLegal : Course → List Logged → Type 0
IsLegal course tale = EachAfter (MayCome course) tale
