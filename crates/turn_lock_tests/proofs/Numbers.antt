-- The numbers of a seat over turns, a split and a join.
use Rattle.std.proofs.Common.{◌≡◌, ℕ, ◌+◌, ◌*◌, ◌<◌, ◌==◌, nat_lt, nat_le, arith}
use Rattle.turn_lock.specs.declared.rule.View.{View}
use Rattle.turn_lock.specs.Totals.{once}
use Rattle.turn_lock.specs.Views.{numbered, times_held, split_from, split_off, joined}
use Rattle.turn_lock.proofs.Numbers.{times_held-split, times_held-join}
use Rattle.turn_lock_tests.specs.Seats.{IsSameSeat, HasSameNumbers}

module _ {N E : Type 0} where
  -- the same seat has the same numbers
  pub times_held-same : (n : ℕ) (v w : View N E) → IsSameSeat v w → times_held n w ≡ times_held n v
  times_held-same n v w s = λ i. once (s.number i == n) + numbered n (s.others i) + once (nat_lt (s.number i) n) * once (nat_le n (s.number i + s.spare i))

  -- a seat that split one off, and took it in again after turns of both, has the numbers that it had
  pub times_held-spread : (n : ℕ) (v first second : View N E) → 0 < v.spare → HasSameNumbers (split_from v) first → IsSameSeat (split_off v) second → times_held n (joined first second) ≡ times_held n v
  times_held-spread n v first second some_spare f s = let a : ℕ = times_held n v in let b : ℕ = times_held n (split_from v) in let c : ℕ = times_held n (split_off v) in let d : ℕ = times_held n first in let e : ℕ = times_held n second in let j : ℕ = times_held n (joined first second) in
      let h : b + c ≡ a = times_held-split n v some_spare in let k : j ≡ d + e = times_held-join n first second s.spare in let x : d ≡ b = f n in let y : e ≡ c = times_held-same n (split_off v) second s in let g : j ≡ a = omega arith in g
