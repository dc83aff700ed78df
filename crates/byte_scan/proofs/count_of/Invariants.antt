use Rattle.std.proofs.Common.{◌≡◌, ◌≤◌, ◌-◌, ◌==◌, length, take, count_by}
use Rattle.byte_scan.proofs.count_of.Given as goal

abbrev pub invariant-loop-at : goal.invariant-loop-at
invariant-loop-at l = record {
  within : l.at ≤ length l.hay;
  counted : l.total ≡ count_by (λ b. b == l.byte) (take l.at l.hay);
}

abbrev pub decreases-loop-at : goal.decreases-loop-at
decreases-loop-at l = length l.hay - l.at
