use Rattle.std.proofs.Common.{length, ◌-◌, ◌≡◌, ◌≤◌, drop}
use Rattle.bb_parser.specs.Words.{skip_white}
use Rattle.bb_parser.proofs.word_list.white_end.Given as goal

-- so far all was white space
abbrev pub invariant-loop-at : goal.invariant-loop-at
invariant-loop-at l = record {
  within : l.at ≤ length l.line;
  skips : skip_white (drop l.at l.line) ≡ skip_white l.line;
}

abbrev pub decreases-loop-at : goal.decreases-loop-at
decreases-loop-at l = length l.line - l.at
