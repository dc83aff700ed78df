use Rattle.std.proofs.Common.{◌≡◌, ◌≤◌, ◌+◌, ◌-◌, ◌^◌, drop}
use Rattle.std.specs.Prelude.{max, min}
use Rattle.tree_model.specs.Size.{largest_of, bytes_of}
use Rattle.tree_model.proofs.tree.size_of_entries.Given as goal

abbrev pub invariant-loop-entry : goal.invariant-loop-entry
invariant-loop-entry l = record {
  largest : max l.largest (largest_of (drop l.entry-index l.entries)) ≡ largest_of l.entries;
  fits : l.bytes ≤ 2 ^ 64 - 1;
  bytes : min (l.bytes + bytes_of (drop l.entry-index l.entries)) (2 ^ 64 - 1) ≡ min (bytes_of l.entries) (2 ^ 64 - 1);
}
