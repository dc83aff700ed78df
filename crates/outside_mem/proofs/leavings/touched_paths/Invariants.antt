use Rattle.std.proofs.Common.{◌≡◌, ◌-◌, take, reverse}
use Rattle.outside_mem.specs.Kept.{touched}
use Rattle.outside_mem.proofs.leavings.touched_paths.Given as goal

abbrev pub invariant-loop-k : goal.invariant-loop-k
invariant-loop-k l = l.paths.items ≡ touched (l.k - l.durable) (reverse (take l.k l.calls))
