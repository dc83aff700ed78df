use Rattle.std.proofs.Common.{◌≡◌}
use Rattle.turn_lock.specs.declared.rule.Stage.TheVariants.{Waiting}
use Rattle.turn_lock.specs.Views.{staged}
use Rattle.turn_lock.proofs.lock.TurnLock.begin.Given as goal

-- between two looks the seat waits with the ticket that it drew, and else knows what it knew
abbrev pub invariant-loop : goal.invariant-loop
invariant-loop g l = record {
  same : l.seat.pass.table_id ≡ l.fn.seat.pass.table_id;
  place : l.seat.pass.id ≡ l.fn.seat.pass.id;
  waits : l.seat.pass.me.0 ≡ staged (Waiting l.ticket) l.fn.seat.pass.me.0;
  bare : l.seat.pass.me.1 ≡ l.fn.seat.pass.me.1;
}
