use Rattle.std.proofs.Common.{◌≡◌, take, map}
use Rattle.load_model.specs.Paths.{path_named}
use Rattle.layer_conf.proofs.order.folders_of.Given as goal

abbrev pub invariant-loop-layer : goal.invariant-loop-layer
invariant-loop-layer l = l.made.items ≡ map path_named (take l.layer-index l.layers)
