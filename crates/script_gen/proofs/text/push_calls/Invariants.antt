use Rattle.std.proofs.Common.{◌≡◌, ◌++◌, take}
use Rattle.task_model.specs.Scripts.{call_lines}
use Rattle.script_gen.proofs.text.push_calls.Given as goal

abbrev pub invariant-loop-name : goal.invariant-loop-name
invariant-loop-name l = l.out ≡ l.fn.out ++ call_lines (take l.name-index l.names)
