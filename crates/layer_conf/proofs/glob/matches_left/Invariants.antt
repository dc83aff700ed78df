use Rattle.std.proofs.Common.{◌≡◌, ◌≤◌, length, drop}
use Rattle.layer_conf.specs.Rows.{rows}
use Rattle.layer_conf.proofs.glob.matches_left.Given as goal

-- the row of the rest of the pattern
abbrev pub invariant-loop-left : goal.invariant-loop-left
invariant-loop-left l = (l.left ≤ length l.pattern) × (l.row.items ≡ rows (drop l.left l.pattern) l.path)

abbrev pub decreases-loop-left : goal.decreases-loop-left
decreases-loop-left l = l.left
