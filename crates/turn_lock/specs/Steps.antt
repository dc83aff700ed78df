-- What each step on the table tells the seat that makes it.
use Rattle.std.specs.Prelude.{◌≡◌, ℕ, List, [], ◌∷◌, Option, Some, false}
use Rattle.atomic_table.specs.Table.{Me, Step}
use Rattle.turn_lock.specs.declared.rule.Stage.TheVariants.{Idle, Waiting, Holding, Joining}
use Rattle.turn_lock.specs.declared.rule.View.{View}
use Rattle.turn_lock.specs.Views.{Begins, Fits, shorter, staged, after_turn, joined}

-- a seat's view, and the slots that it has taken, each with what it holds
abbrev pub Seated : Type 0 → Type 0 → Type 0 → Type 0
Seated S N E = Me (Option S) (View N E)

module _ {S N E : Type 0} where
  -- the seat waits with the ticket that was found
  abbrev pub drawn : Step (Option S) → Seated S N E → ℕ → Seated S N E → Type 0
  drawn step m found m' = (m'.0 ≡ staged (Waiting found) m.0) × (m'.1 ≡ m.1)

  -- where the seat's ticket was found, it holds the turn and has taken the slot with the story, which has the lock's name and fits what the seat knows; else nothing changed
  abbrev pub looked : (S → N) → (S → List E) → (E → ℕ) → Step (Option S) → Seated S N E → ℕ → Seated S N E → Type 0
  looked name_of tale_of author step m found m' = (t : ℕ) → m.0.stage ≡ Waiting t
      → (found ≡ t → (x : S) × (m'.0 ≡ staged (Holding t (tale_of x)) m.0) × (m'.1 ≡ (0, Some x) ∷ m.1) × (m.0.name ≡ name_of x ∷ []) × Fits author m.0 (tale_of x))
      × (¬ (found ≡ t) → m' ≡ m)

  -- the seat's turn is over, and the slot is back at home with the story
  abbrev pub served : (S → List E) → Step (Option S) → Seated S N E → ℕ → Seated S N E → Type 0
  served tale_of step m found m' = (t : ℕ) (old : List E) (x : S) → m.0.stage ≡ Holding t old → m.1 ≡ (0, Some x) ∷ []
      → (m'.0 ≡ after_turn m.0 old (tale_of x)) × (m'.1 ≡ [])

  -- what the seat has seen begins with the shorter of the tales that were seen before the join, which is done
  abbrev pub told : Step (Option S) → Seated S N E → ℕ → Seated S N E → Type 0
  told step m found m' = (m'.0 ≡ staged Idle m.0) × (m'.1 ≡ m.1) × ((short : List E) → m.0.stage ≡ Joining short → Begins m.0.seen short)

module _ {N E : Type 0} where
  -- v as it takes w in
  abbrev pub joining : View N E → View N E → View N E
  joining v w = staged (Joining (shorter v.seen w.seen)) (joined v w)

  -- the view of a seat that was taken in
  abbrev pub taken_in : View N E
  taken_in = record { live = false; name = []; number = 0; spare = 0; seen = []; own = []; others = []; stage = Idle }
