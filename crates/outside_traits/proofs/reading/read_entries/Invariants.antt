use Rattle.std.proofs.Common.{◌≡◌}
use Rattle.outside_traits.specs.Passes.{Passes, Same}
use Rattle.outside_traits.specs.Reading.{Stands}
use Rattle.outside_traits.proofs.reading.read_entries.Given as goal

abbrev pub invariant-loop-path : goal.invariant-loop-path
invariant-loop-path g l = record {
  faults : g.D.Disk.faults l.disk ≡ g.D.Disk.faults l.fn.disk;
  run : g.D.Disk.tells → Passes (g.D.Disk.story l.fn.disk) (g.D.Disk.story l.disk) Same;
  stands : g.D.Disk.tells → Stands l.prefix l.paths l.path-index (g.D.Disk.story l.fn.disk).held l.entries.items;
}
