use Rattle.std.proofs.Common.{◌≡◌, ◌==◌, flat_map, filter}
use Rattle.load_model.specs.Layers.{layer_place}
use Rattle.layer_conf.proofs.Placing.{below}
use Rattle.layer_conf.proofs.order.in_layer_order.Given as goal

-- the paths of the layers so far
abbrev pub invariant-loop-k : goal.invariant-loop-k
invariant-loop-k l = l.made ≡ flat_map (λ k. filter (λ path. layer_place l.layers path == k) l.paths) (below l.k)
