use Rattle.std.proofs.Common.{◌≡◌, take}
use Rattle.task_model.specs.Scripts.{told_names}
use Rattle.script_gen.proofs.told.told_names.Given as goal

abbrev pub invariant-loop-name : goal.invariant-loop-name
invariant-loop-name g l = l.told.items ≡ told_names l.flag (g.L.Lookup.finds l.from) (take l.name-index l.names)
