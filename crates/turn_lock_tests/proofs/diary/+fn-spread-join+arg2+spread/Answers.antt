use Rattle.std.proofs.Common.{rules, ◌<◌, ap, ◌∙◌, subst}
use Rattle.turn_lock.specs.Views.{times_held}
use Rattle.turn_lock.specs.Seats.{view_of}
use Rattle.turn_lock_tests.specs.Seats.{IsSameSeat, HasSameNumbers}
use Rattle.turn_lock_tests.proofs.Numbers.{times_held-spread}
use Rattle.turn_lock_tests.proofs.diary.+fn-spread-join+arg2+spread.Goals as goal

pub returns-clause-numbers : goal.returns-clause-numbers
returns-clause-numbers g t c n = let v = view_of c.args.seat in let more : 0 < v.spare = search rules in
    let first : HasSameNumbers (view_of c.split-other.new.seat) (view_of c.join-first.result.0) = search rules in
    let second : IsSameSeat (view_of c.split-other.result) (view_of c.join-first.result.1) = search rules in
    ap (times_held n) c.join.ensures.seat ∙ times_held-spread n v (view_of c.join-first.result.0) (view_of c.join-first.result.1) more (subst (λ u. HasSameNumbers u (view_of c.join-first.result.0)) c.split-other.ensures.seat first)
    (subst (λ u. IsSameSeat u (view_of c.join-first.result.1)) c.split-other.ensures.new second)
