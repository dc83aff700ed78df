use Rattle.std.proofs.Common.{◌≡◌, take, map}
use Rattle.load_model.specs.Layers.{layer_named}
use Rattle.layer_conf.proofs.order.layers_named.Given as goal

abbrev pub invariant-loop-word : goal.invariant-loop-word
invariant-loop-word l = l.made ≡ map layer_named (take l.word-index l.words)
