use Rattle.std.proofs.Common.{◌<◌, ℕ, slice_index_or, List}
use Rattle.tree_model.specs.Path.{IsAtOrBelow}
use Rattle.tree_model.specs.declared.entry.Entry.{Entry}
use Rattle.tree_model.proofs.order.stands_over.Given as goal

abbrev pub invariant-loop-entry : goal.invariant-loop-entry
invariant-loop-entry l = (k : ℕ) (d : List ℕ × Entry) → k < l.entry-index → IsAtOrBelow l.path (slice_index_or l.later k d).0 → ⊥
