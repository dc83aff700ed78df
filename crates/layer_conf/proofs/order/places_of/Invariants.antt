use Rattle.std.proofs.Common.{◌≡◌, take, map}
use Rattle.layer_conf.specs.Places.{place_in}
use Rattle.layer_conf.proofs.order.places_of.Given as goal

abbrev pub invariant-loop-path : goal.invariant-loop-path
invariant-loop-path l = l.made.items ≡ map (place_in l.folders) (take l.path-index l.paths)
