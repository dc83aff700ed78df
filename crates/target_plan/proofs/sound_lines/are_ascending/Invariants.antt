-- What is left ascends just where the lines do.
use Rattle.std.proofs.Common.{length}
use Rattle.std.specs.Prelude.{◌↔◌}
use Rattle.target_plan.proofs.Ascending.{AreUp}
use Rattle.target_plan.proofs.sound_lines.are_ascending.Given as goal

abbrev pub invariant-loop-rest : goal.invariant-loop-rest
invariant-loop-rest l = AreUp l.rest ↔ AreUp l.lines

abbrev pub decreases-loop-rest : goal.decreases-loop-rest
decreases-loop-rest l = length l.rest
