use Rattle.std.proofs.Common.{◌≡◌, ◌≢◌, List, None, take, ℕ}
use Rattle.std.specs.Prelude.{Contains}
use Rattle.outside_traits.specs.Passes.{Passes}
use Rattle.store_clean.specs.Cleared.{gone_path}
use Rattle.store_clean.specs.Steps.{TakesAway}
use Rattle.store_clean.proofs.taking.take_all.Given as goal

abbrev pub invariant-loop-path : goal.invariant-loop-path
invariant-loop-path g l = record {
  faults : g.D.Disk.faults l.disk ≡ g.D.Disk.faults l.fn.disk;
  run : g.D.Disk.tells → Passes (g.D.Disk.story l.fn.disk) (g.D.Disk.story l.disk) (TakesAway (Contains (take l.path-index l.paths)));
  gone : g.D.Disk.tells → (q : List ℕ) → Contains (take l.path-index l.paths) q → q ≢ gone_path → (g.D.Disk.story l.disk).held q ≡ None;
}
