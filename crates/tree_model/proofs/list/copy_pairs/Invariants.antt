use Rattle.std.proofs.Common.{◌≡◌, take}
use Rattle.tree_model.proofs.list.copy_pairs.Given as goal

abbrev pub invariant-loop-pair : goal.invariant-loop-pair
invariant-loop-pair l = l.made.items ≡ take l.pair-index l.pairs
