use Rattle.std.proofs.Common.{◌≡◌}
use Rattle.outside_traits.specs.Passes.{Passes, Same}
use Rattle.outside_traits.proofs.Steps.{Clearing}
use Rattle.sstate_objects.proofs.open.is_open.Given as goal

abbrev pub invariant-loop-i : goal.invariant-loop-i
invariant-loop-i g l = record {
  faults : g.D.Disk.faults l.disk ≡ g.D.Disk.faults l.fn.disk;
  run : g.D.Disk.tells → Passes (g.D.Disk.story l.fn.disk) (g.D.Disk.story l.disk) Same;
  so_far : g.D.Disk.tells → Clearing l.folder l.i (g.D.Disk.story l.fn.disk) (g.D.Disk.story l.fn.disk);
}
