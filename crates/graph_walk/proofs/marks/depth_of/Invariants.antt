use Rattle.std.proofs.Common.{◌≡◌, take}
use Rattle.graph_walk.specs.Marks.{depth_over}
use Rattle.graph_walk.proofs.marks.depth_of.Given as goal

abbrev pub invariant-loop-node : goal.invariant-loop-node
invariant-loop-node l = l.deepest ≡ depth_over l.marks (take l.node-index l.nodes)
