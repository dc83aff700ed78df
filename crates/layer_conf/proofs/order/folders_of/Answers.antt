use Rattle.std.proofs.lemmas.List.{take_all}
use Rattle.layer_conf.proofs.order.folders_of.Goals as goal

pub returns : goal.returns
returns c = rw (take_all _ _ c.loop-layer-test.false) at c.loop-layer.invariant
