use Rattle.std.proofs.Common.{◌≡◌, ◌≤◌, ◌<◌, ℕ, not, true, length, get_or}
use Rattle.load_model.specs.Paths.{is_slash}
use Rattle.path_words.proofs.cuts.last_start.Given as goal

-- no slash stands from the start on
abbrev pub invariant-loop-start : goal.invariant-loop-start
invariant-loop-start l = record {
  within : l.start ≤ length l.text;
  none : (k : ℕ) → l.start ≤ k → k < length l.text → not (is_slash (get_or l.text k 0)) ≡ true;
}

abbrev pub decreases-loop-start : goal.decreases-loop-start
decreases-loop-start l = l.start
