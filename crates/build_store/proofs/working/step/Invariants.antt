use Rattle.std.proofs.Common.{◌≡◌, ◌+◌, ◌≤◌}
use Rattle.outside_traits.specs.Story.{moment}
use Rattle.build_store.proofs.StepLoop.{Stepping}
use Rattle.build_store.proofs.working.step.Given as goal

abbrev pub invariant-loop-item : goal.invariant-loop-item
invariant-loop-item g l = record {
  faults : g.D.Disk.faults l.disk ≡ g.D.Disk.faults l.fn.disk;
  brief : g.D.Disk.tells → moment (g.D.Disk.story l.disk) + (l.fn.done + l.fn.done) ≤ moment (g.D.Disk.story l.fn.disk) + (l.item + l.item);
  stepping : g.D.Disk.tells → Stepping l.one l.fn.done l.item (g.D.Disk.story l.fn.disk) (g.D.Disk.story l.disk);
}
