use Rattle.std.proofs.Common.{◌≡◌}
use Rattle.outside_traits.proofs.Steps.{Filling}
use Rattle.outside_traits.proofs.filling.fill.Given as goal

abbrev pub invariant-loop-path : goal.invariant-loop-path
invariant-loop-path g l = record {
  faults : g.D.Disk.faults l.disk ≡ g.D.Disk.faults l.fn.disk;
  filling : g.D.Disk.tells → Filling l.folder l.tree l.path-index (g.D.Disk.story l.fn.disk) (g.D.Disk.story l.disk);
}
