use Rattle.std.proofs.Common.{take}
use Rattle.store_opening.specs.Survey.{AreMarks}
use Rattle.store_opening.proofs.survey.marks_of.Given as goal

abbrev pub invariant-loop-place : goal.invariant-loop-place
invariant-loop-place l = AreMarks l.count (take l.place-index l.places) l.marks.items
