use Rattle.store_clean.proofs.Layered.{LayersTo}
use Rattle.store_clean.proofs.rounds.layers_of.Given as goal

abbrev pub invariant-loop-places : goal.invariant-loop-places
invariant-loop-places l = LayersTo l.edges l.places-index l.layers.items
