-- Faults of a store as those of a script.
use Rattle.var_expand.specs.declared.fault.ExpandFault.{ExpandFault}
use Rattle.datastore.specs.declared.fault.DataFault.{DataFault}
use Rattle.datastore.specs.declared.fault.DataFault.TheVariants.{Unstable, Expand, Memory}
use Rattle.datastore.specs.Faults.{told_as}
use Rattle.script_gen.specs.declared.fault.ScriptFault.{ScriptFault}
use Rattle.script_gen.specs.declared.fault.ScriptFault.TheVariants as script

-- a store's fault for one of a script
abbrev pub told : DataFault → ScriptFault
told (Unstable before last) = script.Data (Unstable before last)
told (Expand fault) = script.Data (Expand fault)
told Memory = script.Memory

-- a fault of expansion for one of a script
abbrev pub told_by : ExpandFault → ScriptFault
told_by fault = told (told_as fault)
