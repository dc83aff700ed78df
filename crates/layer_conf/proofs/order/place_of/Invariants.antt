use Rattle.std.proofs.Common.{◌≡◌, ◌≤◌, length, drop}
use Rattle.layer_conf.specs.Places.{nearest_in}
use Rattle.layer_conf.proofs.order.place_of.Given as goal

abbrev pub invariant-loop-left : goal.invariant-loop-left
invariant-loop-left l = record {
  within : l.left ≤ length l.folders;
  nearest : l.found ≡ nearest_in l.left (drop l.left l.folders) l.path;
}

abbrev pub decreases-loop-left : goal.decreases-loop-left
decreases-loop-left l = l.left
