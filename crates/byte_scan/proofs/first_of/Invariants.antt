use Rattle.std.proofs.Common.{◌≡◌, ◌≤◌, ◌<◌, ◌-◌, ◌==◌, ℕ, false, length, get_or}
use Rattle.std.specs.List.{list_any}
use Rattle.byte_scan.proofs.first_of.Given as goal

abbrev pub invariant-loop-at : goal.invariant-loop-at
invariant-loop-at l = record {
  within : l.at ≤ length l.hay;
  none : (k : ℕ) → k < l.at → list_any (λ c. c == get_or l.hay k 0) l.set ≡ false;
}

abbrev pub decreases-loop-at : goal.decreases-loop-at
decreases-loop-at l = length l.hay - l.at
