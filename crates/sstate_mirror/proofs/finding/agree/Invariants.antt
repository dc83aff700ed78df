use Rattle.std.proofs.Common.{take}
use Rattle.std.specs.Prelude.{Contains}
use Rattle.record_move.specs.declared.records.MovedRecord.{MovedRecord}
use Rattle.sstate_mirror.specs.Refusals.{AgreeAt}
use Rattle.sstate_mirror.proofs.finding.agree.Given as goal

abbrev pub invariant-loop-one : goal.invariant-loop-one
invariant-loop-one l = (m : MovedRecord) → Contains (take l.one-index l.moved.records.items) m → AgreeAt l.theirs l.moved.rows m
