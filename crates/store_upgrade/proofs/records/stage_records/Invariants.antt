use Rattle.std.proofs.Common.{◌≡◌, take}
use Rattle.std.specs.Prelude.{Contains}
use Rattle.outside_traits.specs.Passes.{Passes}
use Rattle.sig_gen.specs.Stored.{IsInOrder}
use Rattle.store_model.specs.Spelling.{record_bytes}
use Rattle.store_model.specs.Stored.{SpellsStored}
use Rattle.store_opening.specs.Paths.{IsLaidOut}
use Rattle.record_move.specs.declared.records.AddedRecord.{AddedRecord}
use Rattle.store_upgrade.specs.Steps.{AreStaged, NamesDiffer, StagesRecords}
use Rattle.store_upgrade.proofs.records.stage_records.Given as goal

abbrev pub invariant-loop-one : goal.invariant-loop-one
invariant-loop-one g l = record {
  faults : g.D.Disk.faults l.disk ≡ g.D.Disk.faults l.fn.disk;
  run : g.D.Disk.tells → Passes (g.D.Disk.story l.fn.disk) (g.D.Disk.story l.disk) (StagesRecords l.added);
  laid : g.D.Disk.tells → IsLaidOut (g.D.Disk.story l.disk).held;
  spells : (a : AddedRecord) → Contains (take l.one-index l.added) a → IsInOrder a.stored → SpellsStored (record_bytes a.stored) a.stored;
  so_far : g.D.Disk.tells → NamesDiffer l.added → AreStaged (take l.one-index l.added) (g.D.Disk.story l.disk).held;
}
