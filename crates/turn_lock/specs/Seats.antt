-- The words of the lock's clauses. A seat and a lock are seen by these alone.
use Rattle.std.specs.Prelude.{◌≡◌, ℕ, ◌<◌, List, [], ◌∷◌, None}
use Rattle.turn_lock.specs.declared.lock.TurnLock.{TurnLock}
use Rattle.turn_lock.specs.declared.rule.Stage.TheVariants.{Idle, Holding}
use Rattle.turn_lock.specs.declared.rule.View.{View}
use Rattle.turn_lock.specs.declared.seat.Seat.{Seat}
use Rattle.turn_lock.specs.Views.{staged, tale_out, times_held}

module _ {S N E : Type 0} where
  -- what the seat knows
  abbrev pub view_of : {D : _} → Seat S N E D → View N E
  view_of seat = seat.pass.me.0

  -- the seat is one of this lock's
  abbrev pub IsSeatOf : {D : _} → TurnLock S N E → Seat S N E D → Type 0
  IsSeatOf lock seat = seat.pass.table_id ≡ lock.table.shared.table_id

  -- the number of seats that the lock was made for
  abbrev pub seats_of : TurnLock S N E → ℕ
  seats_of lock = lock.table.shared.key.seats

  -- the story with this name is the one that the seat takes turns with
  abbrev pub IsNamed : {D : _} → Seat S N E D → N → Type 0
  IsNamed seat name = (view_of seat).name ≡ name ∷ []

  -- the seat holds no turn
  abbrev pub IsFree : {D : _} → Seat S N E D → Type 0
  IsFree seat = ((view_of seat).stage ≡ Idle) × (seat.pass.me.1 ≡ [])

  -- the seat holds the turn, and the story is out
  abbrev pub HoldsTurn : {D : _} → Seat S N E D → Type 0
  HoldsTurn seat = (ticket : ℕ) × ((view_of seat).stage ≡ Holding ticket (tale_out (view_of seat))) × (seat.pass.me.1 ≡ (0, None) ∷ [])

  -- the seat now holds the turn, with which this tale went out, and else knows what it knew
  abbrev pub TakesTurn : {D : _} → Seat S N E D → Seat S N E D → List E → Type 0
  TakesTurn old new tale = (ticket : ℕ) × (view_of new ≡ staged (Holding ticket tale) (view_of old)) × (new.pass.me.1 ≡ (0, None) ∷ [])

  -- each number below seats is that of one of the seat's records, or one of its spare ones
  abbrev pub HasAllNumbers : {D : _} → Seat S N E D → ℕ → Type 0
  HasAllNumbers seat seats = (n : ℕ) → n < seats → 0 < times_held n (view_of seat)
