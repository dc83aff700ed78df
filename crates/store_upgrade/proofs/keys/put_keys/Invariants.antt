use Rattle.std.proofs.Common.{◌≡◌, take}
use Rattle.outside_traits.specs.Passes.{Passes}
use Rattle.store_opening.specs.Paths.{IsLaidOut}
use Rattle.store_upgrade.specs.Steps.{KeysDiffer, PutsKeys}
use Rattle.store_upgrade.proofs.Keyed.{HoldsFirst}
use Rattle.store_upgrade.proofs.keys.put_keys.Given as goal

abbrev pub invariant-loop-one : goal.invariant-loop-one
invariant-loop-one g l = record {
  faults : g.D.Disk.faults l.disk ≡ g.D.Disk.faults l.fn.disk;
  run : g.D.Disk.tells → Passes (g.D.Disk.story l.fn.disk) (g.D.Disk.story l.disk) (PutsKeys l.added (g.D.Disk.story l.fn.disk).held);
  laid : g.D.Disk.tells → IsLaidOut (g.D.Disk.story l.disk).held;
  so_far : g.D.Disk.tells → KeysDiffer l.added → HoldsFirst (take l.one-index l.added) (g.D.Disk.story l.disk).held;
}
