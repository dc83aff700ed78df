use Rattle.std.proofs.Common.{◌≡◌, take, map, slice_index}
use Rattle.task_graph.proofs.nodes.ranked.Given as goal

abbrev pub invariant-loop-place : goal.invariant-loop-place
invariant-loop-place l = l.made.items ≡ map (slice_index l.ranks) (take l.place-index l.places)
