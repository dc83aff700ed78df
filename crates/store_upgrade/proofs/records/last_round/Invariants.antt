use Rattle.std.proofs.Common.{◌≤◌, take}
use Rattle.std.specs.Prelude.{Contains}
use Rattle.record_move.specs.declared.records.AddedRecord.{AddedRecord}
use Rattle.store_upgrade.proofs.records.last_round.Given as goal

abbrev pub invariant-loop-one : goal.invariant-loop-one
invariant-loop-one l = (a : AddedRecord) → Contains (take l.one-index l.added) a → a.round ≤ l.last
