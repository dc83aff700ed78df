use Rattle.std.proofs.Common.{◌≡◌, take}
use Rattle.graph_walk.proofs.depth.path_from.Given as goal

abbrev pub invariant-loop-other : goal.invariant-loop-other
invariant-loop-other l = l.cycle.items ≡ take l.other-index l.other-items
