use Rattle.std.proofs.Common.{◌≡◌, ◌<◌, ℕ, List, take, slice_index_or}
use Rattle.tree_model.specs.declared.entry.Entry.{Entry}
use Rattle.tree_model.specs.Folder.{renamed}
use Rattle.tree_model.specs.Path.{IsClean, inside}
use Rattle.tree_model.proofs.folder.entries_inside.Given as goal

abbrev pub invariant-loop-entry : goal.invariant-loop-entry
invariant-loop-entry l = record {
  made : l.made.items ≡ renamed (inside l.folder) (take l.entry-index l.entries);
  clean : (k : ℕ) (d : List ℕ × Entry) → k < l.entry-index → IsClean (inside l.folder (slice_index_or l.entries k d).0);
}
