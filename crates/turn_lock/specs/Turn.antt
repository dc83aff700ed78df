-- The third part of the rule: the turn. The story is at home, or it is out with exactly one seat.
use Rattle.std.specs.Prelude.{◌≡◌, ◌⊎◌, ℕ, List, [], ◌∷◌, Option, Some}
use mathlib.Core.Option.{some, none}
use mathlib.Core.Option as maybe
use lib.ListN.{get_elem?}
use Rattle.turn_lock.specs.declared.rule.Stage.TheVariants.{Holding}
use Rattle.turn_lock.specs.declared.rule.View.{View}

module _ {N E : Type 0} where
  -- a seat holds the turn, with the ticket that is served, and the known tale went out with it
  abbrev pub IsOut : ℕ → List E → List (View N E) → Type 0
  IsOut serving known views = (j : ℕ) × (v : View N E) × (get_elem? views j ≡ some v) × (v.stage ≡ Holding serving known)

module _ {S N E : Type 0} (name_of : S → N) (tale_of : S → List E) where
  -- the slot has the story, with the lock's name and the known tale
  abbrev pub IsHome : N → List E → List (maybe.Option (Option S)) → Type 0
  IsHome name known homes = (x : S) × (homes ≡ some (Some x) ∷ []) × (name_of x ≡ name) × (tale_of x ≡ known)

  -- Either the story is at home, or the slot is out and a seat holds the turn. A seat that holds the turn has the ticket that is served, the known tale went out with it, and the slot is out.
  pub record Turn (name : N) (serving : ℕ) (known : List E) (homes : List (maybe.Option (Option S))) (views : List (View N E)) : Type 0 where
    pub place : IsHome name known homes ⊎ ((homes ≡ none ∷ []) × IsOut serving known views)
    pub held : (j : ℕ) (v : View N E) (t : ℕ) (old : List E) → get_elem? views j ≡ some v → v.stage ≡ Holding t old → (t ≡ serving) × (old ≡ known) × (homes ≡ none ∷ [])
