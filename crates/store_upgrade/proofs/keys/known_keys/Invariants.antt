use Rattle.std.proofs.Common.{◌≡◌, List, Some, false, take, ℕ}
use Rattle.std.specs.Prelude.{Contains}
use Rattle.tree_model.specs.declared.entry.Entry.TheVariants.{File}
use Rattle.record_move.specs.Known.{digest, key_named}
use Rattle.store_upgrade.proofs.keys.known_keys.Given as goal

abbrev pub invariant-loop-file : goal.invariant-loop-file
invariant-loop-file l = (path bytes : List ℕ) → Contains (take l.file-index l.files) (path, File false bytes) → key_named l.keys (digest bytes) ≡ Some bytes
