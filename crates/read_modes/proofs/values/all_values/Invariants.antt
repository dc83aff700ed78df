use Rattle.std.proofs.Common.{◌≡◌, drop}
use Rattle.meta_model.specs.Passing.{behind}
use Rattle.answer_model.specs.Modes as modes
use Rattle.read_modes.proofs.values.all_values.Given as goal

-- the values so far, and what is left of the numbers
abbrev pub invariant-loop-number : goal.invariant-loop-number
invariant-loop-number l = modes.all_values l.set l.numbers ≡ behind l.made (modes.all_values l.set (drop l.number-index l.numbers))
