use Rattle.std.proofs.Common.{◌≡◌, take}
use Rattle.tree_model.specs.Folder.{entries_below}
use Rattle.tree_model.proofs.folder.entries_under.Given as goal

abbrev pub invariant-loop-entry : goal.invariant-loop-entry
invariant-loop-entry l = l.made.items ≡ entries_below l.fn.folder (take l.entry-index l.entries)
