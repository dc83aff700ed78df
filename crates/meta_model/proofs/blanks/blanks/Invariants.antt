use Rattle.std.proofs.Common.{length, ◌-◌, ◌≡◌, ◌≤◌, drop}
use Rattle.std.specs.Str.{IsUtf8, IsCharBoundary}
use Rattle.meta_model.specs.Text.{skip_blanks}
use Rattle.meta_model.proofs.blanks.blanks.Given as goal

-- so far all were blanks
abbrev pub invariant-loop-at : goal.invariant-loop-at
invariant-loop-at l = record {
  within : l.at ≤ length l.line;
  skips : skip_blanks (drop l.at l.line) ≡ skip_blanks l.line;
  cut : IsUtf8 l.line → IsCharBoundary l.line l.at;
}

abbrev pub decreases-loop-at : goal.decreases-loop-at
decreases-loop-at l = length l.line - l.at
