use Rattle.std.proofs.Common.{◌≡◌, ◌<◌, ◌+◌, ℕ, List, take, drop, slice_index_or}
use Rattle.std.specs.Prelude.{map}
use Rattle.tree_model.specs.declared.entry.Entry.{Entry}
use Rattle.tree_model.specs.Path.{BeginsWith}
use Rattle.tree_model.proofs.edit.listing_of.Given as goal

abbrev pub invariant-loop-entry : goal.invariant-loop-entry
invariant-loop-entry l = record {
  paths : l.paths ≡ map (λ e. e.0) (take l.entry-index (drop l.start l.entries));
  begin : (k : ℕ) (d : List ℕ × Entry) → k < l.entry-index → BeginsWith l.prefix (slice_index_or l.entries (l.start + k) d).0;
}
