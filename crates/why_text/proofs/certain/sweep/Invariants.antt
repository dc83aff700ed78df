use Rattle.setscene_plan.proofs.Sweeping.{IsSwept}
use Rattle.why_model.specs.Seen.{narrowed}
use Rattle.why_text.proofs.certain.sweep.Given as goal

abbrev pub invariant-loop-place : goal.invariant-loop-place
invariant-loop-place l = IsSwept (narrowed l.seen l.plan) l.avail l.set l.place
