use Rattle.std.proofs.Common.{◌≡◌, ◌≤◌, take}
use Rattle.outside_traits.specs.Store.{slashes}
use Rattle.store_upgrade.proofs.stamps.is_folder.Given as goal

abbrev pub invariant-loop-byte : goal.invariant-loop-byte
invariant-loop-byte l = record {
  few : l.slashes ≤ l.byte-index;
  counted : l.slashes ≡ slashes (take l.byte-index l.bytes);
}
