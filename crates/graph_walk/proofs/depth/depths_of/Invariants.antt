use Rattle.std.proofs.Common.{◌≡◌, ℕ, ◌<◌, [], false}
use Rattle.graph_walk.specs.declared.marks.Mark.TheVariants.{New}
use Rattle.graph_walk.specs.Marks.{IsWalk, mark_at}
use Rattle.graph_walk.proofs.depth.depths_of.Given as goal

abbrev pub invariant-loop-root : goal.invariant-loop-root
invariant-loop-root l = record {
  walk : IsWalk l.edges l.walk.rings l.walk.marks.items l.walk.left.items l.walk.path.items;
  none : l.walk.rings ≡ false;
  empty : l.walk.path.items ≡ [];
  met : (v : ℕ) → v < l.root → mark_at l.walk.marks.items v ≡ New → ⊥;
}
