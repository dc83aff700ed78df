use Rattle.std.proofs.Common.{◌≡◌, drop}
use Rattle.task_model.specs.Scripts.{value_at}
use Rattle.script_gen.proofs.of_key.value_at.Given as goal

abbrev pub invariant-loop-line : goal.invariant-loop-line
invariant-loop-line l = value_at l.lines l.name ≡ value_at (drop l.line-index l.lines) l.name
