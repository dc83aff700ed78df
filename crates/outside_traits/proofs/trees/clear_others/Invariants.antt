use Rattle.std.proofs.Common.{◌≡◌}
use Rattle.outside_traits.proofs.Steps.{Emptying}
use Rattle.outside_traits.proofs.trees.clear_others.Given as goal

abbrev pub invariant-loop-k : goal.invariant-loop-k
invariant-loop-k g l = record {
  faults : g.D.Disk.faults l.disk ≡ g.D.Disk.faults l.fn.disk;
  emptying : g.D.Disk.tells → Emptying l.folder l.tree l.found l.k (g.D.Disk.story l.fn.disk) (g.D.Disk.story l.disk);
}
