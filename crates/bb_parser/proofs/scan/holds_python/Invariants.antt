use Rattle.std.proofs.Common.{length, ◌≡◌, ◌-◌, drop}
use Rattle.meta_model.specs.Statements.{holds_python}
use Rattle.bb_parser.proofs.scan.holds_python.Given as goal

-- it stands in the rest, or nowhere
abbrev pub invariant-loop-at : goal.invariant-loop-at
invariant-loop-at l = holds_python l.text ≡ holds_python (drop l.at l.text)

abbrev pub decreases-loop-at : goal.decreases-loop-at
decreases-loop-at l = length l.text - l.at
