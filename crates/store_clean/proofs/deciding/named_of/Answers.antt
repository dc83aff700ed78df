use Rattle.std.proofs.Common.{arith}
use Rattle.store_clean.proofs.Ordered.{named_all, named_first, named_next}
use Rattle.store_clean.proofs.deciding.named_of.Goals as goal

pub loop-place-init : goal.loop-place-init
loop-place-init c = named_first c.args.nodes.now c.in_ok-made.made.items c.in_ok-made.ensures.items

pub loop-place-preserved : goal.loop-place-preserved
loop-place-preserved c = named_next c.args.nodes.now c.loop-place.place c.index-nodes-place.result c.loop-place.made.items c.push.new.self.items c.loop-place-test.true c.index-nodes-place.is c.loop-place.invariant c.in_ok-push.ensures.items

pub returns : goal.returns
returns c = named_all c.args.nodes.now c.loop-place.place c.loop-place.made.items c.loop-place-test.false (omega arith) c.loop-place.invariant
