use Rattle.std.proofs.Common.{◌≡◌, drop}
use Rattle.task_model.specs.Scripts.{value_at}
use Rattle.task_plan.proofs.shell.has_sstate.Given as goal

-- no line so far has the name
abbrev pub invariant-loop-line : goal.invariant-loop-line
invariant-loop-line l = value_at l.lines l.task ≡ value_at (drop l.line-index l.lines) l.task
