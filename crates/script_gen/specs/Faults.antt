-- What a fault says of the script or the places that were meant.
use Rattle.std.specs.Prelude.{Option, Some, None, option_map, Result}
use Rattle.meta_model.specs.Passing.{IsRefused}
use Rattle.datastore.specs.Faults.{data_refusal}
use Rattle.task_model.specs.TaskRefusal.{TaskRefusal, bad_flag, no_value}
use Rattle.script_gen.specs.declared.fault.ScriptFault.{ScriptFault}
use Rattle.script_gen.specs.declared.fault.ScriptFault.TheVariants.{BadFlag, Data, Memory}

-- the refusal that a fault is: with its flag and word, or that of the value that was asked for; none where it is want of memory
abbrev pub refusal_of : ScriptFault → Option TaskRefusal
refusal_of (BadFlag flag word) = Some (bad_flag flag word)
refusal_of (Data fault) = option_map no_value (data_refusal fault)
refusal_of Memory = None

-- The fault is the refusal that was meant. Of want of memory nothing is claimed.
abbrev pub IsScriptFault : {A : Type 0} → ScriptFault → Result A TaskRefusal → Type 0
IsScriptFault fault meant = IsRefused (refusal_of fault) meant
