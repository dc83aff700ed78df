use Rattle.std.proofs.Common.{◌≡◌, take}
use Rattle.task_worker.specs.Jobs.{IsLaid}
use Rattle.task_worker.proofs.running.put_all.Given as goal

abbrev pub invariant-loop-entry : goal.invariant-loop-entry
invariant-loop-entry g l = record {
  laid : g.B.Bench.tells → IsLaid (take l.entry-index l.entries) (g.B.Bench.place l.bench);
  runs : g.B.Bench.tells → (g.B.Bench.place l.bench).runs ≡ (g.B.Bench.place l.fn.bench).runs;
  gives : g.B.Bench.gives l.bench ≡ g.B.Bench.gives l.fn.bench;
  faults : g.B.Bench.faults l.bench ≡ g.B.Bench.faults l.fn.bench;
}
