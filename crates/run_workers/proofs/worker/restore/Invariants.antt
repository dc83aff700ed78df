use Rattle.std.proofs.Common.{◌≡◌}
use Rattle.turn_lock.specs.Seats.{view_of, IsFree, IsSeatOf}
use Rattle.run_workers.specs.Seats.{IsSameSeat}
use Rattle.run_workers.proofs.worker.restore.Given as goal

abbrev pub invariant-loop : goal.invariant-loop
invariant-loop g l = record {
  queue : IsSeatOf l.fn.queue l.seat;
  free : IsFree l.seat;
  same : IsSameSeat (view_of l.fn.seat) (view_of l.seat);
  own : (view_of l.seat).own ≡ (view_of l.fn.seat).own;
  place : g.B.Bench.tells → g.B.Bench.place l.bench ≡ g.B.Bench.place l.fn.bench;
  gives : g.B.Bench.gives l.bench ≡ g.B.Bench.gives l.fn.bench;
  faults : g.B.Bench.faults l.bench ≡ g.B.Bench.faults l.fn.bench;
}
