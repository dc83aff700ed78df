-- What a fault says of what was meant.
use Rattle.std.specs.Prelude.{◌≡◌, Option, Some, None, Result, Ok, Err, ⊤}
use Rattle.meta_model.specs.Refusal.{Refusal, value_cycle, too_deep, too_long, unstable}
use Rattle.meta_model.specs.declared.value.Resolved.{Resolved}
use Rattle.var_expand.specs.declared.fault.ExpandFault.{ExpandFault}
use Rattle.var_expand.specs.declared.fault.ExpandFault.TheVariants as expand
use Rattle.var_expand.specs.Faults.{IsFaultOf}
use Rattle.datastore.specs.declared.fault.DataFault.{DataFault}
use Rattle.datastore.specs.declared.fault.DataFault.TheVariants.{Unstable, Expand, Memory}

-- Memory ran out.
abbrev pub IsWantOfMemory : DataFault → Type 0
IsWantOfMemory fault = fault ≡ Memory

-- The fault is the refusal that was meant, with its lists or its name. Of want of memory nothing is claimed.
abbrev pub IsDataFault : {A : Type 0} → DataFault → Result A Refusal → Type 0
IsDataFault (Unstable before last) meant = meant ≡ Err (unstable before last)
IsDataFault (Expand fault) meant = IsFaultOf fault meant
IsDataFault Memory meant = ⊤

-- a store's fault for one of expansion
abbrev pub told_as : ExpandFault → DataFault
told_as (expand.ValueCycle name) = Expand (expand.ValueCycle name)
told_as (expand.TooDeep name) = Expand (expand.TooDeep name)
told_as (expand.TooLong name) = Expand (expand.TooLong name)
told_as (expand.Unstable before last) = Unstable before last
told_as expand.Memory = Memory

-- the refusal that a fault is; none where it is want of memory
abbrev pub refusal_of : ExpandFault → Option Refusal
refusal_of (expand.ValueCycle name) = Some (value_cycle name)
refusal_of (expand.TooDeep name) = Some (too_deep name)
refusal_of (expand.TooLong name) = Some (too_long name)
refusal_of (expand.Unstable before last) = Some (unstable before last)
refusal_of expand.Memory = None

-- the refusal that a fault of a store is; none where it is want of memory
abbrev pub data_refusal : DataFault → Option Refusal
data_refusal (Unstable before last) = Some (unstable before last)
data_refusal (Expand fault) = refusal_of fault
data_refusal Memory = None

-- What is found where a fault keeps all names from being found. Where it is want of memory nothing is claimed.
abbrev pub refused_with : Option Refusal → Result (Option Resolved) Refusal
refused_with (Some refusal) = Err refusal
refused_with None = Ok None

abbrev pub refused_by : ExpandFault → Result (Option Resolved) Refusal
refused_by fault = refused_with (refusal_of fault)
