use Rattle.std.proofs.Common.{◌≡◌, ◌==◌, take}
use Rattle.std.specs.List.{list_any, position_or_len}
use Rattle.byte_scan.proofs.before_any.Given as goal

abbrev pub invariant-loop-byte : goal.invariant-loop-byte
invariant-loop-byte l = l.least ≡ position_or_len (λ b. list_any (λ c. c == b) (take l.byte-index l.set)) l.lanes
