-- An era with clearings: all runs, edits, interruptions and clearings since a disk was empty.
use Rattle.std.specs.Prelude.{◌≡◌, ℕ, Option}
use Rattle.outside_traits.specs.Passes.{EachNow, Passes}
use Rattle.outside_traits.specs.Store.{Store}
use Rattle.outside_traits.specs.Story.{IsImageSince, Story}
use Rattle.meta_model.specs.CleanBuild.{Gives}
use Rattle.meta_model.specs.declared.event.Status.TheVariants as status
use Rattle.meta_model.specs.declared.plan.Plan.{Plan}
use Rattle.store_model.specs.Origins.{Reading}
use Rattle.run_model.specs.Build.{HasTargets}
use Rattle.run_model.specs.Era.{Call, HasBook, IsPromised, MayTakeAny}
use Rattle.run_model.specs.Headline.{nothing}
use Rattle.plan_clean.specs.Along.{IsAlong}
use Rattle.plan_clean.specs.Laws.{StandsSince}

-- What a clearing did to a disk: from a story of which all that was held was durable, with any plan's names for its roots, it went on as clearings do.
pub record IsClearingOf (held : Store) (old new : Story) : Type 0 where
  pub plan : Option Plan
  pub limit : ℕ
  pub at : old.held ≡ held
  pub durable : EachNow old (λ image. image ≡ old.held)
  pub along : Passes old new (IsAlong plan limit old.held)

-- What a disk holds in an era with clearings: nothing; or what an interruption at any moment of a call left, or its end, as in an era without; or what
-- an interruption at any moment of a clearing left, or its end.
pub data IsOfLongEra (gives : Gives) (reading : Reading) : Store → Type 0 where
  begins : IsOfLongEra gives reading nothing
  goes_on : (held : Store) (call : Call) (image : Store) → IsOfLongEra gives reading held → MayTakeAny gives reading held call.plan → IsPromised gives reading held call → IsImageSince call.story 0 image → IsOfLongEra gives reading image
  is_cleared : (held : Store) (old new : Story) (image : Store) → IsOfLongEra gives reading held → IsClearingOf held old new → StandsSince old new image → IsOfLongEra gives reading image

-- *Whatever came before*: in each such era a run may begin.
abbrev pub LongErasGoOn : Type 0
LongErasGoOn = (gives : Gives) (reading : Reading) (held : Store) → IsOfLongEra gives reading held → HasBook gives reading held

-- And a call that answers Ok leaves exactly the clean outputs of its targets, whatever a crash behind it leaves.
abbrev pub LongErasAreExact : Type 0
LongErasAreExact =
    (gives : Gives) (reading : Reading) (held : Store) (call : Call) → IsOfLongEra gives reading held → MayTakeAny gives reading held call.plan → IsPromised gives reading held call
    → call.status ≡ status.Ok → EachNow call.story (HasTargets gives call.plan)
