use Rattle.std.proofs.Common.{◌≡◌, map, reverse, length}
use Rattle.meta_model.specs.Parts.{joined_with, plain_opening}
use Rattle.var_expand.specs.Standing.{flattened}
use Rattle.var_expand.specs.ReadOn.{held}
use Rattle.var_expand.proofs.standing.flat.Given as goal

abbrev pub invariant-loop-frame : goal.invariant-loop-frame
invariant-loop-frame l =
    joined_with (held l.whole) (plain_opening (joined_with (flattened (map held (reverse l.rest.items))) (held l.inner))) ≡ joined_with (flattened (map held l.fn.outer.items)) (held l.inner)

abbrev pub decreases-loop-frame : goal.decreases-loop-frame
decreases-loop-frame l = length l.rest.items
