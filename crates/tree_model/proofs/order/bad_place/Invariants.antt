use Rattle.std.proofs.Common.{◌<◌, ℕ, slice_index_or, List, length}
use Rattle.tree_model.specs.Tree.{Precedes}
use Rattle.tree_model.specs.Path.{IsClean}
use Rattle.tree_model.specs.declared.entry.Entry.{Entry}
use Rattle.tree_model.proofs.order.bad_place.Given as goal

abbrev pub invariant-loop-place : goal.invariant-loop-place
invariant-loop-place l = record {
  clean : (k : ℕ) (d : List ℕ × Entry) → k < l.place → IsClean (slice_index_or l.entries k d).0;
  ordered : (k j : ℕ) (d : List ℕ × Entry) → k < l.place → k < j → j < length l.entries → Precedes (slice_index_or l.entries k d).0 (slice_index_or l.entries j d).0;
}
