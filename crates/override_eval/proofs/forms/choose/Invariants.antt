use Rattle.override_eval.specs.Winner.{IsBestOf}
use Rattle.override_eval.proofs.forms.choose.Given as goal

-- the best one so far
abbrev pub invariant-loop-place : goal.invariant-loop-place
invariant-loop-place l = IsBestOf l.active l.forms l.place l.best
