-- The first part of the rule: the line of tickets.
use Rattle.std.specs.Prelude.{◌≡◌, ℕ, ◌+◌, ◌%◌, ◌^◌, ◌<◌, List}
use mathlib.Core.Option.{some}
use lib.ListN.{get_elem?}
use Rattle.turn_lock.specs.declared.rule.View.{View}
use Rattle.turn_lock.specs.Totals.{total}
use Rattle.turn_lock.specs.Views.{outstanding, HasTicket}

module _ {N E : Type 0} where
  -- how many tickets are out with the seat
  abbrev pub tickets_of : View N E → ℕ
  tickets_of v = outstanding v.stage

  -- The next ticket lies as many behind the one that is served as there are tickets out, modulo 2 ^ 64.
  -- Each ticket that is out lies between the two, and no two seats have the same.
  pub record Line (serving next : ℕ) (views : List (View N E)) : Type 0 where
    pub next_is : next ≡ (serving + total tickets_of views) % 2 ^ 64
    pub low : serving < 2 ^ 64
    pub within : (j : ℕ) (v : View N E) (t : ℕ) → get_elem? views j ≡ some v → HasTicket t v.stage → (k : ℕ) × (k < total tickets_of views) × (t ≡ (serving + k) % 2 ^ 64)
    pub apart : (i j : ℕ) (v w : View N E) (t : ℕ) → get_elem? views i ≡ some v → get_elem? views j ≡ some w → HasTicket t v.stage → HasTicket t w.stage → i ≡ j
