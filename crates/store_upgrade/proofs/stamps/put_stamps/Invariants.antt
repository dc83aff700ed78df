use Rattle.std.proofs.Common.{◌≡◌, take}
use Rattle.outside_traits.specs.Passes.{Passes}
use Rattle.store_opening.specs.Paths.{IsLaidOut}
use Rattle.store_upgrade.specs.Steps.{AreStamped, PutsStamps}
use Rattle.store_upgrade.proofs.Stamped.{AreAway}
use Rattle.store_upgrade.proofs.stamps.put_stamps.Given as goal

abbrev pub invariant-loop-stamp : goal.invariant-loop-stamp
invariant-loop-stamp g l = record {
  faults : g.D.Disk.faults l.disk ≡ g.D.Disk.faults l.fn.disk;
  run : g.D.Disk.tells → Passes (g.D.Disk.story l.fn.disk) (g.D.Disk.story l.disk) (PutsStamps (take l.stamp-index l.stamps));
  laid : g.D.Disk.tells → IsLaidOut (g.D.Disk.story l.disk).held;
  away : g.D.Disk.tells → AreAway (take l.stamp-index l.stamps) (g.D.Disk.story l.disk).held;
  so_far : g.D.Disk.tells → AreStamped (take l.stamp-index l.stamps) (g.D.Disk.story l.disk).held;
}
