use Rattle.std.proofs.Common.{◌≡◌, take}
use Rattle.store_model.specs.Opened.{rows_at}
use Rattle.store_opening.proofs.judging.rows_of.Given as goal

abbrev pub invariant-loop-place : goal.invariant-loop-place
invariant-loop-place l = l.index ≡ rows_at l.candidates (take l.place-index l.places)
