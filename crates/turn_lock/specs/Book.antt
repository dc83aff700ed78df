-- The second part of the rule: the book of what the seats know and own.
-- The known tale is the story's while it is at home, and while a turn is out the tale that went out.
use Rattle.std.specs.Prelude.{◌≡◌, ℕ, ◌+◌, ◌<◌, ◌≤◌, nat_lt, if◌then◌else◌, List, [], ◌∷◌, length, All, true, false}
use mathlib.Core.Option.{some}
use lib.ListN.{get_elem?}
use Rattle.turn_lock.specs.declared.rule.Stage.TheVariants.{Idle, Joining}
use Rattle.turn_lock.specs.declared.rule.View.{View}
use Rattle.turn_lock.specs.Totals.{once, total}
use Rattle.turn_lock.specs.Views.{Begins, entries_of, times_held, Fits}

module _ {N E : Type 0} where
  abbrev pub spare_of : View N E → ℕ
  spare_of v = v.spare

  -- how often the number n stands among a seat's numbers; a seat that was taken in has none
  abbrev pub owns : ℕ → View N E → ℕ
  owns n v = if v.live then times_held n v else 0

  -- What one seat knows. While it lives it has the story's name, the known tale fits it, and no entry of the known tale has one of its spare numbers.
  -- A seat that was taken in has seen nothing and has no ticket. While a seat takes another in, what it has seen begins with the shorter of the two tales.
  pub record Knows (author : E → ℕ) (name : N) (known : List E) (v : View N E) : Type 0 where
    pub name_is : v.live ≡ true → v.name ≡ name ∷ []
    pub fits : v.live ≡ true → Fits author v known
    pub spares : v.live ≡ true → (n : ℕ) → v.number < n → n ≤ v.number + v.spare → entries_of author n known ≡ []
    pub spent : v.live ≡ false → (v.seen ≡ []) × (v.stage ≡ Idle)
    pub prefix : (short : List E) → v.stage ≡ Joining short → Begins v.seen short

  -- There are at most 64 seats, and each spare number and each view stands for one of them. Each view knows what it ought to. Each number below seats stands once among the
  -- numbers of all seats, and no other number does. Some seat has seen all of the known tale, and all its entries have numbers below seats.
  pub record Book (author : E → ℕ) (name : N) (seats : ℕ) (known : List E) (views : List (View N E)) : Type 0 where
    pub small : seats ≤ 64
    pub few : total spare_of views + length views ≡ seats
    pub each : (j : ℕ) (v : View N E) → get_elem? views j ≡ some v → Knows author name known v
    pub apart : (n : ℕ) → total (owns n) views ≡ once (nat_lt n seats)
    pub longest : (j : ℕ) × (v : View N E) × (get_elem? views j ≡ some v) × (v.seen ≡ known)
    pub within : All (λ e. author e < seats) known
