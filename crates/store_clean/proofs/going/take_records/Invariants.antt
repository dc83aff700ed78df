use Rattle.std.proofs.Common.{◌≡◌, ◌≤◌, length}
use Rattle.outside_traits.specs.Passes.{Passes}
use Rattle.outside_traits.specs.Store.{IsFree}
use Rattle.store_clean.specs.Cleared.{gone_path}
use Rattle.store_clean.specs.Steps.{AreInRounds}
use Rattle.store_clean.proofs.Down.{IsDownTo}
use Rattle.store_clean.proofs.Runs.{IsDurable}
use Rattle.store_clean.proofs.going.take_records.Given as goal

abbrev pub invariant-loop-next : goal.invariant-loop-next
invariant-loop-next g l = record {
  faults : g.D.Disk.faults l.disk ≡ g.D.Disk.faults l.fn.disk;
  within : l.next ≤ length l.rounds;
  run : g.D.Disk.tells → Passes (g.D.Disk.story l.fn.disk) (g.D.Disk.story l.disk) (λ i k. AreInRounds l.nodes l.rounds (g.D.Disk.story l.fn.disk).held k);
  durable : g.D.Disk.tells → IsDurable (g.D.Disk.story l.disk);
  free : g.D.Disk.tells → IsFree (g.D.Disk.story l.disk).held gone_path;
  down : g.D.Disk.tells → IsDownTo l.nodes l.rounds l.next (g.D.Disk.story l.fn.disk).held (g.D.Disk.story l.disk).held;
}

abbrev pub decreases-loop-next : goal.decreases-loop-next
decreases-loop-next g l = l.next
