use Rattle.std.proofs.Common.{◌≡◌, ◌<◌, ◌≤◌, true, length, take, get_or}
use Rattle.meta_model.specs.Text.{is_one_of, without_end}
use Rattle.meta_model.proofs.blanks.kept_len.Given as goal

-- the bytes that the line has behind the end are of the set
abbrev pub invariant-loop-end : goal.invariant-loop-end
invariant-loop-end l = record {
  within : l.end ≤ length l.line;
  kept : without_end (is_one_of l.ends) (take l.end l.line) ≡ without_end (is_one_of l.ends) l.line;
  stop : l.end < length l.line → is_one_of l.ends (get_or l.line l.end 0) ≡ true;
}

abbrev pub decreases-loop-end : goal.decreases-loop-end
decreases-loop-end l = l.end
