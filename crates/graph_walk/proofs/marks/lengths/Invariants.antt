use Rattle.std.proofs.Common.{◌≡◌, ℕ, map, take, length}
use Rattle.graph_walk.proofs.marks.lengths.Given as goal

abbrev pub invariant-loop-list : goal.invariant-loop-list
invariant-loop-list l = l.made.items ≡ map (length {A = ℕ}) (take l.list-index l.edges)
