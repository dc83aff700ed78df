-- What a fault says of the meaning of a text.
use Rattle.std.specs.Prelude.{◌≡◌, Result, Err}
use Rattle.meta_model.specs.Refusal.{Refusal, value_cycle, too_deep, too_long, unstable}
use Rattle.var_expand.specs.declared.fault.ExpandFault.{ExpandFault}
use Rattle.var_expand.specs.declared.fault.ExpandFault.TheVariants.{ValueCycle, TooDeep, TooLong, Unstable, Memory}

-- Memory ran out.
abbrev pub IsWantOfMemory : ExpandFault → Type 0
IsWantOfMemory fault = fault ≡ Memory

-- The fault is the refusal that was meant, with its name. Of want of memory nothing is claimed.
abbrev pub IsFaultOf : {A : Type 0} → ExpandFault → Result A Refusal → Type 0
IsFaultOf (ValueCycle name) meant = meant ≡ Err (value_cycle name)
IsFaultOf (TooDeep name) meant = meant ≡ Err (too_deep name)
IsFaultOf (TooLong name) meant = meant ≡ Err (too_long name)
IsFaultOf (Unstable before last) meant = meant ≡ Err (unstable before last)
IsFaultOf Memory meant = Unit {0}
