use Rattle.turn_lock.specs.Seats.{view_of, IsSeatOf, IsFree}
use Rattle.turn_lock_tests.specs.Seats.{IsSameSeat}
use Rattle.turn_lock_tests.proofs.diary.turns.Given as goal

abbrev pub invariant-loop-i : goal.invariant-loop-i
invariant-loop-i g l = record {
  lock : IsSeatOf l.fn.lock l.seat;
  free : IsFree l.seat;
  same : IsSameSeat (view_of l.fn.seat) (view_of l.seat);
}
