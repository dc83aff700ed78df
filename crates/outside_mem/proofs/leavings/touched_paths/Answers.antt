use Rattle.std.proofs.Common.{arith}
use Rattle.outside_mem.proofs.Damages.{touched_more}
use Rattle.outside_mem.proofs.leavings.touched_paths.Goals as goal

pub loop-k-preserved : goal.loop-k-preserved
loop-k-preserved c = touched_more c.args.calls.now _ c.loop-k.k c.index-calls-k.result c.loop-k.paths.items _ (omega arith) (omega arith) c.index-calls-k.is c.loop-k.invariant c.in_ok-touch.ensures
