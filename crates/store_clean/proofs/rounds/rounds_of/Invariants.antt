use Rattle.store_clean.proofs.Layered.{RoundsTo}
use Rattle.store_clean.proofs.rounds.rounds_of.Given as goal

abbrev pub invariant-loop-place : goal.invariant-loop-place
invariant-loop-place l = RoundsTo l.edges l.layers.items l.marks l.place l.rounds.items
