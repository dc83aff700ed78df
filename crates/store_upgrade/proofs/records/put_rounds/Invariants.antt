use Rattle.std.proofs.Common.{◌≡◌, List, ℕ}
use Rattle.outside_traits.specs.Passes.{Passes}
use Rattle.store_opening.specs.Paths.{IsLaidOut}
use Rattle.store_upgrade.specs.Steps.{IsNone, NamesDiffer, PutsRounds}
use Rattle.store_upgrade.proofs.Called.{IsDurable}
use Rattle.store_upgrade.proofs.Rounded.{IsUpTo}
use Rattle.store_upgrade.proofs.records.put_rounds.Given as goal

abbrev pub invariant-loop-round : goal.invariant-loop-round
invariant-loop-round g l = record {
  faults : g.D.Disk.faults l.disk ≡ g.D.Disk.faults l.fn.disk;
  run : g.D.Disk.tells → Passes (g.D.Disk.story l.fn.disk) (g.D.Disk.story l.disk) (λ i k. PutsRounds l.added (g.D.Disk.story l.fn.disk).held k);
  laid : g.D.Disk.tells → IsLaidOut (g.D.Disk.story l.disk).held;
  durable : g.D.Disk.tells → IsDurable (g.D.Disk.story l.disk);
  others : g.D.Disk.tells → (q : List ℕ) → IsNone l.added q → (g.D.Disk.story l.disk).held q ≡ (g.D.Disk.story l.fn.disk).held q;
  up_to : g.D.Disk.tells → NamesDiffer l.added → IsUpTo l.added l.round (g.D.Disk.story l.fn.disk).held (g.D.Disk.story l.disk).held;
}
