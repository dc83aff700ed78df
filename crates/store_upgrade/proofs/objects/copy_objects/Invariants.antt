use Rattle.std.proofs.Common.{◌≡◌, take}
use Rattle.std.specs.Prelude.{codes, Contains}
use Rattle.outside_traits.specs.Passes.{Passes}
use Rattle.record_move.specs.declared.records.MovedRecord.{MovedRecord}
use Rattle.store_upgrade.specs.Steps.{AreNoneInTheWay, IsCopied, Within}
use Rattle.store_upgrade.proofs.Copied.{IsSourceThere}
use Rattle.store_upgrade.proofs.objects.copy_objects.Given as goal

abbrev pub invariant-loop-one : goal.invariant-loop-one
invariant-loop-one g l = record {
  faults : g.D.Disk.faults l.disk ≡ g.D.Disk.faults l.fn.disk;
  run : g.D.Disk.tells → Passes (g.D.Disk.story l.fn.disk) (g.D.Disk.story l.disk) (Within (codes "obj"));
  sources : g.D.Disk.tells → AreNoneInTheWay l.rows l.moved → (m : MovedRecord) → Contains l.moved m → IsSourceThere m (g.D.Disk.story l.fn.disk).held (g.D.Disk.story l.disk).held;
  so_far : g.D.Disk.tells → AreNoneInTheWay l.rows l.moved → (m : MovedRecord) → Contains (take l.one-index l.moved) m → IsCopied l.rows m (g.D.Disk.story l.fn.disk).held (g.D.Disk.story l.disk).held;
}
