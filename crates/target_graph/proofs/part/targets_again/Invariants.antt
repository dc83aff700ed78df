use Rattle.std.proofs.Common.{◌≡◌, take}
use Rattle.target_graph.proofs.part.targets_again.Given as goal

abbrev pub invariant-loop-target : goal.invariant-loop-target
invariant-loop-target l = l.made ≡ take l.target-index l.targets
