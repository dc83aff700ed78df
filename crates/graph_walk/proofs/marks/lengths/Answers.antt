use Rattle.std.proofs.Common.{ℕ, length}
use Rattle.graph_walk.proofs.Maps.{map_step, map_end}
use Rattle.graph_walk.proofs.marks.lengths.Goals as goal

pub loop-list-preserved : goal.loop-list-preserved
loop-list-preserved c = map_step (length {A = ℕ}) c.args.edges.now c.loop-list.list-index c.list-item.result c.loop-list.made.items c.len.result c.push.new.self.items c.loop-list-test.true c.list-item.is c.loop-list.invariant c.len.ensures c.in_ok-push.ensures.items

pub returns : goal.returns
returns c = map_end (length {A = ℕ}) c.args.edges.now c.loop-list.list-index c.loop-list.made.items c.loop-list-test.false c.loop-list.invariant
