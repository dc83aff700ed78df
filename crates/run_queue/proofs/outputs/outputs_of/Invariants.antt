use Rattle.std.proofs.Common.{◌≡◌, map, take}
use Rattle.std.specs.List.{AllByRecursion}
use Rattle.outside_traits.specs.Passes.{Passes, Same}
use Rattle.build_store.specs.View.{SameBooks}
use Rattle.task_worker.specs.Layouts.{AreShort}
use Rattle.run_queue.specs.Outputs.{IsRead}
use Rattle.run_queue.proofs.outputs.outputs_of.Given as goal

abbrev pub invariant-loop-number : goal.invariant-loop-number
invariant-loop-number g l = record {
  faults : g.D.Disk.faults l.store.disk ≡ g.D.Disk.faults l.fn.store.disk;
  books : SameBooks l.fn.store l.store;
  same : g.D.Disk.tells → Passes (g.D.Disk.story l.fn.store.disk) (g.D.Disk.story l.store.disk) Same;
  numbers : map (λ o. o.0) l.outputs.items ≡ take l.number-index l.numbers;
  each : g.D.Disk.tells → AllByRecursion (IsRead l.plan.tasks (g.D.Disk.story l.fn.store.disk).held) l.outputs.items;
  short : AreShort l.outputs.items;
}
