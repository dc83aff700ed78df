use Rattle.std.proofs.Common.{◌≡◌, take}
use Rattle.std.specs.Map.{lookup}
use Rattle.std.specs.Str.{bytes_eq}
use Rattle.tree_model.specs.declared.hash.Hash.{Hash}
use Rattle.store_upgrade.specs.Stamps.{renewed}
use Rattle.store_upgrade.proofs.stamps.names_of.Given as goal

abbrev pub invariant-loop-one : goal.invariant-loop-one
invariant-loop-one l = (q : Hash) → lookup (bytes_eq q.bytes) l.names.entries ≡ renewed (take l.one-index l.moved) q
