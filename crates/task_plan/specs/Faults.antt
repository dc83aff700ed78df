-- What a fault says of the plan that was meant.
use Rattle.std.specs.Prelude.{◌≡◌, ◌⊎◌, Bool, true, false, Option, Some, None, Result, Ok, Err}
use Rattle.std.specs.Option.{option_map}
use Rattle.meta_model.specs.Passing.{IsRefused}
use Rattle.datastore.specs.Faults.{data_refusal}
use Rattle.plan_model.specs.PlanRefusal.{PlanRefusal, bad_flag, no_value, missing_file, input_bytes, plan_bytes}
use Rattle.task_plan.specs.declared.fault.PlanFault.{PlanFault}
use Rattle.task_plan.specs.declared.fault.PlanFault.TheVariants.{BadFlag, Data, MissingFile, InputBytes, PlanBytes, Read, Memory}

-- the refusal that a fault is; none where the layers failed or memory ran out
abbrev pub plan_refusal : PlanFault → Option PlanRefusal
plan_refusal (BadFlag file flag word) = Some (bad_flag file flag word)
plan_refusal (Data file fault) = option_map (no_value file) (data_refusal fault)
plan_refusal (MissingFile file word) = Some (missing_file file word)
plan_refusal (InputBytes path) = Some (input_bytes path)
plan_refusal PlanBytes = Some plan_bytes
plan_refusal Read = None
plan_refusal Memory = None

-- Memory ran out.
abbrev pub IsWantOfMemory : PlanFault → Type 0
IsWantOfMemory fault = fault ≡ Memory

-- The fault is the refusal that was meant. A failure of the layers and want of memory claim nothing.
pub record IsPlanFault {A : Type 0} (fault : PlanFault) (meant : Result A PlanRefusal) : Type 0 where
  pub told : IsRefused (plan_refusal fault) meant

-- the fault is this refusal, unless memory ran out
abbrev pub IsTold : PlanFault → Option PlanRefusal → Type 0
IsTold fault refusal = (plan_refusal fault ≡ refusal) ⊎ (plan_refusal fault ≡ None)

-- whether a fault says that the layers failed
abbrev pub is_failure : PlanFault → Bool
is_failure (BadFlag file flag word) = false
is_failure (Data file fault) = false
is_failure (MissingFile file word) = false
is_failure (InputBytes path) = false
is_failure PlanBytes = false
is_failure Read = true
is_failure Memory = false

-- whether the answer is that the layers failed
abbrev pub plan_failed : {T : Type 0} → Result T PlanFault → Bool
plan_failed (Ok x) = false
plan_failed (Err fault) = is_failure fault
