-- The words of a queue's clauses.
use Rattle.std.specs.Prelude.{ℕ}
use Rattle.turn_lock.specs.declared.seat.Seat.{Seat}
use Rattle.turn_lock.specs.Seats.{IsSeatOf, seats_of}
use Rattle.turn_lock_tests.specs.declared.queue.Logged.{Logged}
use Rattle.turn_lock_tests.specs.declared.queue.Queue.{Queue}
use Rattle.turn_lock_tests.specs.declared.queue.RunName.{RunName}
use Rattle.turn_lock_tests.specs.declared.queue.State.{State}

module _ {T : Type 0} where
  -- the seat is one of the queue's lock
  abbrev pub IsSeatAt : {D : _} → Queue T → Seat (State T) RunName Logged D → Type 0
  IsSeatAt queue seat = IsSeatOf queue.lock seat

  -- the number of seats of the queue's lock
  abbrev pub queue_seats : Queue T → ℕ
  queue_seats queue = seats_of queue.lock
