use Rattle.std.proofs.Common.{◌≡◌, take}
use Rattle.outside_traits.specs.Passes.{Passes, Same}
use Rattle.store_opening.specs.Survey.{AreRead}
use Rattle.store_opening.proofs.records.read_all.Given as goal

abbrev pub invariant-loop-path : goal.invariant-loop-path
invariant-loop-path g l = record {
  faults : g.D.Disk.faults l.disk ≡ g.D.Disk.faults l.fn.disk;
  run : g.D.Disk.tells → Passes (g.D.Disk.story l.fn.disk) (g.D.Disk.story l.disk) Same;
  so_far : g.D.Disk.tells → AreRead (g.D.Disk.story l.fn.disk).held (take l.path-index l.paths) l.files.items;
}
