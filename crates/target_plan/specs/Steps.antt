-- What a status says of the plan of one run.
use Rattle.std.specs.Prelude.{◌≡◌, ◌⊎◌, Result, Err}
use Rattle.meta_model.specs.declared.event.Status.{Status}
use Rattle.meta_model.specs.declared.plan.Plan.{Plan}
use Rattle.target_graph.specs.Runs.{IsDeviceStatus}
use Rattle.plan_model.specs.PlanRefusal.{PlanRefusal}
use Rattle.answer_model.specs.PlanStatus.{plan_status}

-- the layers failed, memory ran out, or there is no plan, for this reason
abbrev pub IsNoPlanOf : Result Plan PlanRefusal → Status → Type 0
IsNoPlanOf meant status = IsDeviceStatus status ⊎ ((refusal : PlanRefusal) × (meant ≡ Err refusal) × (status ≡ plan_status refusal))
