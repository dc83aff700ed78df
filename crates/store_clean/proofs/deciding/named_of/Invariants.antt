use Rattle.store_clean.proofs.Ordered.{NamedTo}
use Rattle.store_clean.proofs.deciding.named_of.Given as goal

abbrev pub invariant-loop-place : goal.invariant-loop-place
invariant-loop-place l = NamedTo l.nodes l.place l.made.items
