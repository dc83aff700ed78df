use Rattle.std.specs.Prelude.{None}
use Rattle.turn_lock.specs.Seats.{view_of, IsFree, IsSeatOf}
use Rattle.run_workers.specs.Seats.{IsSameSeat}
use Rattle.run_workers.specs.Worked.{Worked}
use Rattle.run_workers.proofs.worker.work.Given as goal

abbrev pub invariant-loop : goal.invariant-loop
invariant-loop g l = record {
  queue : IsSeatOf l.fn.queue l.seat;
  free : IsFree l.seat;
  same : IsSameSeat (view_of l.fn.seat) (view_of l.seat);
  worked : Worked g.D.Disk.tells g.B.Bench.tells g.K.Began.alike g.B.Bench.place g.B.Bench.gives g.B.Bench.faults g.K.Began.first g.K.Began.gives None (view_of l.fn.seat).number (view_of l.seat).own l.fn.bench l.bench;
}
