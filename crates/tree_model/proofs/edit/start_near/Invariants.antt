use Rattle.tree_model.proofs.BelowLemmas.{AreBefore}
use Rattle.tree_model.proofs.edit.start_near.Given as goal

abbrev pub invariant-loop-place : goal.invariant-loop-place
invariant-loop-place l = AreBefore l.entries l.place l.prefix
