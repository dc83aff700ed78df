use Rattle.std.proofs.Common.{take}
use Rattle.store_opening.specs.Survey.{AreBare}
use Rattle.store_opening.proofs.bare.bare_of.Given as goal

abbrev pub invariant-loop-candidate : goal.invariant-loop-candidate
invariant-loop-candidate l = AreBare (take l.candidate-index l.candidates) l.bare.items
