use Rattle.std.proofs.Common.{arith}
use Rattle.outside_mem.proofs.Damages.{picked_end}
use Rattle.outside_mem.proofs.leavings.damage.Goals as goal

pub returns-clause-picked : goal.returns-clause-picked
returns-clause-picked c = picked_end (omega arith) c.loop-number.invariant
