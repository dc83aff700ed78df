-- What a seat keeps over turns and threads.
use Rattle.std.specs.Prelude.{◌≡◌, ℕ}
use Rattle.turn_lock.specs.declared.rule.View.{View}
use Rattle.turn_lock.specs.Views.{times_held}

module _ {N E : Type 0} where
  -- the same seat, which may have seen more and added entries
  pub record IsSameSeat (v w : View N E) : Type 0 where
    pub name : w.name ≡ v.name
    pub number : w.number ≡ v.number
    pub spare : w.spare ≡ v.spare
    pub others : w.others ≡ v.others

  -- a seat with the same numbers, each as often
  abbrev pub HasSameNumbers : View N E → View N E → Type 0
  HasSameNumbers v w = (n : ℕ) → times_held n w ≡ times_held n v
