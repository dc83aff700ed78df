use Rattle.std.proofs.Common.{ℕ, List, ◌<◌, ◌≤◌, get_or, length}
use Rattle.tree_model.specs.declared.entry.Entry.{Entry}
use Rattle.tree_model.specs.Path.{IsClean, inside}
use Rattle.device_tests.proofs.sub_tests.fits.Given as goal

abbrev pub invariant-loop-path : goal.invariant-loop-path
invariant-loop-path l = (k : ℕ) (d : List ℕ × Entry) → k < l.path-index → IsClean (inside l.folder (get_or l.path-items k d).0) × (length (inside l.folder (get_or l.path-items k d).0) ≤ l.most)
