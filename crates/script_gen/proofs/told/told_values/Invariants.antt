use Rattle.std.proofs.Common.{◌≡◌, drop}
use Rattle.task_model.specs.Scripts.{told_values}
use Rattle.meta_model.specs.Passing.{behind}
use Rattle.script_gen.proofs.told.told_values.Given as goal

abbrev pub invariant-loop-name : goal.invariant-loop-name
invariant-loop-name g l = told_values (g.L.Lookup.finds l.from) l.names ≡ behind l.list (told_values (g.L.Lookup.finds l.from) (drop l.name-index l.names))
