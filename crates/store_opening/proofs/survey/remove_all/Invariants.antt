use Rattle.std.proofs.Common.{◌≡◌}
use Rattle.outside_traits.specs.Passes.{Passes}
use Rattle.store_opening.specs.Survey.{TakesOut}
use Rattle.store_opening.proofs.Doomed.{GoneBelow}
use Rattle.store_opening.proofs.survey.remove_all.Given as goal

abbrev pub invariant-loop-path : goal.invariant-loop-path
invariant-loop-path g l = record {
  faults : g.D.Disk.faults l.disk ≡ g.D.Disk.faults l.fn.disk;
  run : g.D.Disk.tells → Passes (g.D.Disk.story l.fn.disk) (g.D.Disk.story l.disk) (TakesOut l.paths);
  gone : g.D.Disk.tells → GoneBelow l.paths l.path-index (g.D.Disk.story l.disk).held;
}
