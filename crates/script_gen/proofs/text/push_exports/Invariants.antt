use Rattle.std.proofs.Common.{◌≡◌, ◌++◌, take}
use Rattle.task_model.specs.Scripts.{export_lines}
use Rattle.script_gen.proofs.text.push_exports.Given as goal

abbrev pub invariant-loop-value : goal.invariant-loop-value
invariant-loop-value l = l.out ≡ l.fn.out ++ export_lines (take l.value-index l.values)
