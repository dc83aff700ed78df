use Rattle.tree_model.proofs.BelowLemmas.{AgreesUpTo}
use Rattle.tree_model.proofs.path.common_length.Given as goal

abbrev pub invariant-loop-place : goal.invariant-loop-place
invariant-loop-place l = AgreesUpTo l.one l.other l.place
