use Rattle.std.proofs.Common.{◌≡◌, take}
use Rattle.std.specs.Prelude.{codes}
use Rattle.outside_traits.specs.Passes.{Passes}
use Rattle.store_opening.specs.Paths.{IsLaidOut}
use Rattle.store_upgrade.specs.Steps.{AreStagedStamps, Within}
use Rattle.store_upgrade.proofs.stamps.stage_stamps.Given as goal

abbrev pub invariant-loop-stamp : goal.invariant-loop-stamp
invariant-loop-stamp g l = record {
  faults : g.D.Disk.faults l.disk ≡ g.D.Disk.faults l.fn.disk;
  run : g.D.Disk.tells → Passes (g.D.Disk.story l.fn.disk) (g.D.Disk.story l.disk) (Within (codes "tmp"));
  laid : g.D.Disk.tells → IsLaidOut (g.D.Disk.story l.disk).held;
  so_far : g.D.Disk.tells → AreStagedStamps (take l.stamp-index l.stamps) (g.D.Disk.story l.disk).held;
}
