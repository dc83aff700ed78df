use Rattle.store_clean.proofs.Tabled.{EdgesTo}
use Rattle.store_clean.proofs.edges.edges_of.Given as goal

abbrev pub invariant-loop-own : goal.invariant-loop-own
invariant-loop-own l = EdgesTo l.nodes l.own l.edges.items
