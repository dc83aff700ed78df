use Rattle.std.proofs.Common.{◌≡◌, ◌≤◌, take, reverse}
use Rattle.outside_traits.specs.Story.{unsynced}
use Rattle.outside_mem.proofs.leavings.unsynced_calls.Given as goal

abbrev pub invariant-loop-k : goal.invariant-loop-k
invariant-loop-k l = record {
  count : l.count ≡ unsynced (reverse (take l.k l.calls));
  within : l.count ≤ l.k;
}
