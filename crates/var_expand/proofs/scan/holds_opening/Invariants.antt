use Rattle.std.proofs.Common.{length, ◌≡◌, codes}
use Rattle.meta_model.specs.Text.{holds}
use Rattle.var_expand.proofs.scan.holds_opening.Given as goal

abbrev pub invariant-loop-at : goal.invariant-loop-at
invariant-loop-at l = holds (codes "${") l.bytes ≡ holds (codes "${") l.rest

abbrev pub decreases-loop-at : goal.decreases-loop-at
decreases-loop-at l = length l.rest
