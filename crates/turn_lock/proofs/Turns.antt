-- The third part of the rule: what each step does to the story, which is at home or out with one seat.
use Rattle.std.proofs.Common.{◌≡◌, ◌≢◌, ℕ, zero, suc, List, [], ◌∷◌, ◌++◌, set, Some, Option, sym, ap, ◌∙◌, ⊎_elim, inl, inr}
use mathlib.Core.Option.{some, none, some-ne-none, some-injective}
use mathlib.Core.Option as maybe
use lib.ListN.{get_elem?}
use Rattle.atomic_table.proofs.Lists.{at_set, at_snoc, at_longer, set_here, set_else}
use Rattle.turn_lock.specs.declared.rule.Stage.TheVariants.{Idle, Holding}
use Rattle.turn_lock.specs.declared.rule.View.{View}
use Rattle.turn_lock.specs.Views.{staged}
use Rattle.turn_lock.specs.Turn.{IsOut, IsHome, Turn}
use Rattle.turn_lock.proofs.Totals.{in_bounds}
use Rattle.turn_lock.proofs.Stages.{ticket_in, tale_in, idle_holds}

-- a slot that is at home isn't out
pub home_out : {A : Type 0} (x : A) (homes : List (maybe.Option A)) → homes ≡ some x ∷ [] → homes ≡ none ∷ [] → ⊥
home_out x homes e f = some-ne-none x (some-injective (some x) none (ap (λ (l : List (maybe.Option _)). get_elem? l 0) (sym e ∙ f)))

module _ {S N E : Type 0} (name_of : S → N) (tale_of : S → List E) (name : N) where
  abbrev Views : Type 0
  Views = List (View N E)

  abbrev Homes : Type 0
  Homes = List (maybe.Option (Option S))

  abbrev Turns : ℕ → List E → Homes → Views → Type 0
  Turns = Turn name_of tale_of name

  -- a lock begins with the story at home
  pub turn_opens : (a : ℕ) (known : List E) (homes : Homes) (v : View N E) → IsHome name_of tale_of name known homes → v.stage ≡ Idle → Turns a known homes (v ∷ [])
  turn_opens a known homes v home idle = record { place = inl home; held = λ j u t old e holds. absurd (none_holds j u t old e holds) }
    where
      none_holds : (j : ℕ) (u : View N E) (t : ℕ) (old : List E) → get_elem? (v ∷ []) j ≡ some u → u.stage ≡ Holding t old → ⊥
      none_holds zero u t old e holds = idle_holds v.stage t old idle (ap (λ (q : View N E). q.stage) (some-injective _ _ e) ∙ holds)
      none_holds (suc j) u t old e holds = some-ne-none u (sym e)

  -- a seat changes that doesn't hold the turn, before or after
  pub turn_rests : (a : ℕ) (known : List E) (homes : Homes) (views : Views) (id : ℕ) (v w : View N E) → Turns a known homes views → get_elem? views id ≡ some v
      → ((t : ℕ) (old : List E) → v.stage ≡ Holding t old → ⊥) → ((t : ℕ) (old : List E) → w.stage ≡ Holding t old → ⊥) → Turns a known homes (set views id w)
  turn_rests a known homes views id v w r at before after = record {
    place = ⊎_elim inl (λ (x : (homes ≡ none ∷ []) × IsOut a known views). let o = x.1 in
        let apart : o.0 ≢ id = λ same. before a known (ap (λ (y : View N E). y.stage) (some-injective _ _ (sym at ∙ (ap (get_elem? views) (sym same) ∙ o.2))) ∙ o.3) in
        inr (x.0, (o.0, o.1, set_else views id o.0 w apart ∙ o.2, o.3))) r.place;
    held = λ j u t old e holds. ⊎_elim
        (λ (x : (j ≡ id) × (w ≡ u)). absurd (after t old (ap (λ (y : View N E). y.stage) x.1 ∙ holds)))
        (λ (x : (j ≢ id) × (get_elem? views j ≡ some u)). r.held j u t old x.1 holds)
        (at_set views id j w u e);
  }

  -- a further seat, with no turn
  pub turn_snoc : (a : ℕ) (known : List E) (homes : Homes) (views : Views) (w : View N E) → Turns a known homes views → w.stage ≡ Idle → Turns a known homes (views ++ w ∷ [])
  turn_snoc a known homes views w r idle = record {
    place = ⊎_elim inl (λ (x : (homes ≡ none ∷ []) × IsOut a known views). let o = x.1 in inr (x.0, (o.0, o.1, at_longer views (w ∷ []) o.0 o.1 o.2, o.3))) r.place;
    held = λ j u t old e holds. ⊎_elim (λ (x : get_elem? views j ≡ some u). r.held j u t old x holds) (λ (x : w ≡ u). absurd (idle_holds w.stage t old idle (ap (λ (q : View N E). q.stage) x ∙ holds))) (at_snoc views w u j e);
  }

  -- the seat with the ticket that is served takes the story
  pub turn_takes : (a : ℕ) (known : List E) (homes : Homes) (views : Views) (id t : ℕ) (v : View N E) (x : S) → Turns a known homes views → get_elem? views id ≡ some v → a ≡ t → homes ≡ some (Some x) ∷ [] → tale_of x ≡ known
      → Turns a known (set homes 0 none) (set views id (staged (Holding t (tale_of x)) v))
  turn_takes a known homes views id t v x r at hit home knows = let w : View N E = staged (Holding t (tale_of x)) v in
      let emptied : set homes 0 none ≡ none ∷ [] = ap (λ (l : Homes). set l 0 none) home in record {
        place = inr (emptied, (id, w, set_here views id w (in_bounds views id v at), (λ i. Holding (sym hit i) (knows i))));
        held = λ j u t' old e holds. ⊎_elim
            (λ (y : (j ≡ id) × (w ≡ u)). let same : Holding t (tale_of x) ≡ Holding t' old = ap (λ (q : View N E). q.stage) y.1 ∙ holds in (sym (ap ticket_in same) ∙ sym hit, sym (ap tale_in same) ∙ knows, emptied))
            (λ (y : (j ≢ id) × (get_elem? views j ≡ some u)). absurd (home_out (Some x) homes home (r.held j u t' old y.1 holds).2))
            (at_set views id j w u e);
      }

  -- the seat with the turn gives the story back, and no other seat had the turn
  pub turn_serves : (a to : ℕ) (known grown : List E) (homes back : Homes) (views : Views) (id : ℕ) (w : View N E) → Turns a known homes views → IsHome name_of tale_of name grown back
      → ((j : ℕ) (u : View N E) (t : ℕ) (old : List E) → get_elem? views j ≡ some u → u.stage ≡ Holding t old → j ≡ id) → w.stage ≡ Idle → Turns to grown back (set views id w)
  turn_serves a to known grown homes back views id w r home only idle = record {
    place = inl home;
    held = λ j u t old e holds. ⊎_elim
        (λ (y : (j ≡ id) × (w ≡ u)). absurd (idle_holds w.stage t old idle (ap (λ (q : View N E). q.stage) y.1 ∙ holds)))
        (λ (y : (j ≢ id) × (get_elem? views j ≡ some u)). absurd (y.0 (only j u t old y.1 holds)))
        (at_set views id j w u e);
  }
