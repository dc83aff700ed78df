-- What a dry run answers.
use Rattle.std.specs.Prelude.{ℕ, List, false}
use Rattle.meta_model.specs.declared.event.Status.{Status}
use Rattle.meta_model.specs.declared.event.Status.TheVariants as status
use Rattle.meta_model.specs.declared.plan.Plan.{Plan}
use Rattle.plan_model.specs.Inputs.{Files}
use Rattle.answer_model.specs.Plans.{HasPlan, IsPlanRefused}
use Rattle.answer_model.specs.declared.asked.DryRequest.{DryRequest}

-- The request has this plan.
abbrev pub IsDryPlan : Files → List (List ℕ) → DryRequest → Plan → Type 0
IsDryPlan files paths request plan = HasPlan files paths request.targets request.task false plan

-- the request has no plan, for which it is refused with this status
abbrev pub IsDryRefused : Files → List (List ℕ) → DryRequest → Status → Type 0
IsDryRefused files paths request s = IsPlanRefused files paths request.targets request.task false s

-- The status of a dry run fits: it is `Ok` or, where the sink failed, `WriteFault` only where there is a plan, and a fault of
-- metadata or a limit only where that is the refusal. It may say besides that the layers failed or that memory was wanting, and
-- nothing else.
abbrev pub HasDry : Status → Files → List (List ℕ) → DryRequest → Type 0
HasDry status.Ok files paths request = (plan : Plan) × IsDryPlan files paths request plan
HasDry status.WriteFault files paths request = (plan : Plan) × IsDryPlan files paths request plan
HasDry (status.Metadata file line kind detail) files paths request = IsDryRefused files paths request (status.Metadata file line kind detail)
HasDry (status.Limit kind) files paths request = IsDryRefused files paths request (status.Limit kind)
HasDry status.ReadFault files paths request = Unit {0}
HasDry status.OutOfMemory files paths request = Unit {0}
HasDry _ files paths request = ⊥
