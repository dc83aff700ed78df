use Rattle.std.proofs.Common.{◌≡◌, take, min, ◌-◌, ◌^◌}
use Rattle.std.specs.Prelude.{sum_by}
use Rattle.sstate_objects.specs.Matching.{largest_line}
use Rattle.sstate_objects.proofs.sizes.size_told.Given as goal

abbrev pub invariant-loop-line : goal.invariant-loop-line
invariant-loop-line l = record {
  largest : l.largest ≡ largest_line (take l.line-index l.lines);
  bytes : l.bytes ≡ min (sum_by (λ line. line.length) (take l.line-index l.lines)) (2 ^ 64 - 1);
}
