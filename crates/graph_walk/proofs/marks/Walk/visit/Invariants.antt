use Rattle.std.proofs.Common.{◌≡◌}
use Rattle.graph_walk.specs.declared.marks.Mark.TheVariants.{New}
use Rattle.graph_walk.specs.Marks.{IsWalk, NeverNew, work_left, mark_at}
use Rattle.graph_walk.proofs.marks.Walk.visit.Given as goal

abbrev pub invariant-loop-node : goal.invariant-loop-node
invariant-loop-node l = record {
  walk : IsWalk l.edges l.self.rings l.self.marks.items l.self.left.items l.self.path.items;
  rings : l.self.rings ≡ l.fn.self.rings;
  met : NeverNew l.fn.self.marks.items l.self.marks.items;
  root : mark_at l.self.marks.items l.root ≡ New → ⊥;
}

abbrev pub decreases-loop-node : goal.decreases-loop-node
decreases-loop-node l = work_left l.self.marks.items l.self.left.items l.self.path.items
