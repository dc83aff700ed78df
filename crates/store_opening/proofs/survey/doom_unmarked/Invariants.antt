use Rattle.store_opening.specs.Survey.{DoomsUnmarked}
use Rattle.store_opening.proofs.survey.doom_unmarked.Given as goal

abbrev pub invariant-loop-place : goal.invariant-loop-place
invariant-loop-place l = DoomsUnmarked l.candidates l.marks l.place l.initial.doomed.items l.doomed.items
