-- Why no plan is found.
use Rattle.target_graph.specs.Runs.{IsDeviceStatus}
use Rattle.std.specs.Prelude.{◌⊎◌, ℕ, Bool, List, Option}
use Rattle.meta_model.specs.declared.event.Status.{Status}
use Rattle.plan_model.specs.Inputs.{Files}
use Rattle.answer_model.specs.Plans.{IsPlanRefused}
use Rattle.multi_config.specs.declared.parts.ConfigTargets.{ConfigTargets}
use Rattle.multi_config.specs.Plans.{IsPartRefused}

-- why no plan was found: the layers failed, memory ran out, or the words have none
abbrev pub IsNoPlan : Files → List (List ℕ) → List (List ℕ) → Option (List ℕ) → Bool → Status → Type 0
IsNoPlan files paths words task force status = IsDeviceStatus status ⊎ IsPlanRefused files paths words task force status

-- why no plan of a part was found: the layers failed, memory ran out, or it has none
abbrev pub IsNoPartPlan : Files → List (List ℕ) → ConfigTargets → Bool → Status → Type 0
IsNoPartPlan files paths part force status = IsDeviceStatus status ⊎ IsPartRefused files paths part force status
