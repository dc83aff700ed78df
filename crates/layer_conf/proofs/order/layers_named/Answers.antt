use Rattle.std.proofs.lemmas.List.{take_all}
use Rattle.layer_conf.proofs.order.layers_named.Goals as goal

pub returns : goal.returns
returns c = rw (take_all _ _ c.loop-word-test.false) at c.loop-word.invariant
