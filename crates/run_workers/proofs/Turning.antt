-- What a seat's own record says of the tasks that run, and how a turn changes what a seat knows.
use Rattle.std.proofs.Common.{◌≡◌, ◌↔◌, sym, ◌∙◌, ap, refl, ℕ, ◌==◌, Bool, true, false, List, [], ◌∷◌, ◌++◌, length, drop, Option, Some, None, if◌then◌else◌, arith}
use Rattle.std.specs.List.{fold}
use Rattle.std.proofs.Math.Seq.{drop-append_seam}
use Rattle.meta_model.specs.declared.event.Event.{Event}
use Rattle.meta_model.specs.declared.event.Event.TheVariants as events
use Rattle.meta_model.specs.declared.event.Logged.{Logged}
use Rattle.tale_model.specs.declared.fate.Fate.{Fate}
use Rattle.tale_model.specs.declared.fate.Fate.TheVariants.{Running}
use Rattle.tale_model.specs.Fates.{fate_at, IsFree}
use Rattle.run_core.specs.History.{last_of}
use Rattle.turn_lock.specs.declared.rule.Stage.TheVariants.{Holding}
use Rattle.turn_lock.specs.declared.rule.View.{View}
use Rattle.turn_lock.specs.Views.{Begins, HasEntries, after_turn, entries_of, records_of, staged, tale_out}
use Rattle.run_workers.specs.declared.shared.Told.{Told}
use Rattle.run_workers.specs.Seats.{Holds, HoldsNone, Turned}
use Rattle.run_workers.specs.Told.{logged_in, told}
use Rattle.run_model.specs.Seats.{own}
use Rattle.run_workers.proofs.Telling.{logged_own, logged_told}

-- the last event of a seat is that of its own entries
last_own_from : (n : ℕ) (last : Option Event) (tale : List Logged) → fold (λ last entry. if entry.seat == n then Some entry.event else last) last (own n tale) ≡ fold (λ last entry. if entry.seat == n then Some entry.event else last) last tale
last_own_from n last [] = refl
last_own_from n last (e ∷ tale) = by_test (last_own_from n (Some e.event) tale) (last_own_from n last tale) (e.seat == n) refl
  where
    f : Option Event → Logged → Option Event
    f last entry = if entry.seat == n then Some entry.event else last

    by_test : fold f (Some e.event) (own n tale) ≡ fold f (Some e.event) tale → fold f last (own n tale) ≡ fold f last tale
        → (b : Bool) → (e.seat == n) ≡ b → fold f last (if b then e ∷ own n tale else own n tale) ≡ fold f (if b then Some e.event else last) tale
    by_test hit miss true is = ap (λ (b : Bool). fold f (if b then Some e.event else last) (own n tale)) is ∙ hit
    by_test hit miss false is = miss

-- by a record of its entries in the tale as seats hand it on
pub last_own : (n : ℕ) (tale : List Logged) (k : ℕ) (mine : List Told) → entries_of (λ e. e.logged.seat) n (told tale k) ≡ mine → last_of n (logged_in mine) ≡ last_of n tale
last_own n tale k mine is =
    ap (last_of n) (sym (ap logged_in is) ∙ logged_own n (told tale k) ∙ ap (own n) (logged_told tale k)) ∙ last_own_from n None tale

module _ (fates : List Fate) (tale : List Logged) (k : ℕ) (mine : List Told) (n : ℕ)
    (law : (t seat : ℕ) → (fate_at fates t ≡ Running seat) ↔ (last_of seat tale ≡ Some (events.Started t seat)))
    (is : entries_of (λ e. e.logged.seat) n (told tale k) ≡ mine) where
  -- where a task runs exactly where the seat's last event is its start, a seat with no job in hand has no running task
  pub free_by_own : HoldsNone n mine → IsFree fates n
  free_by_own none t runs = none t (last_own n tale k mine is ∙ (law t n).0 runs)

  -- and the task of the job that it has in hand runs under it
  pub runs_by_own : (t : ℕ) → Holds t n mine → fate_at fates t ≡ Running n
  runs_by_own t holds = (law t n).1 (sym (last_own n tale k mine is) ∙ holds)

module _ {N : Type 0} where
  pub turned : (v w u : View N Told) (ticket : ℕ) (tale new added : List Told) → Begins tale v.seen
      → w ≡ staged (Holding ticket tale) v → new ≡ tale ++ added → u ≡ after_turn w (tale_out w) new → Turned v u added
  turned v w u ticket tale new added begins taken grown ended =
      let is : u ≡ after_turn (staged (Holding ticket tale) v) tale new = ended ∙ ap (λ x. after_turn x (tale_out x) new) taken in record {
        name = ap (λ x. x.name) is;
        number = ap (λ x. x.number) is;
        spare = ap (λ x. x.spare) is;
        others = ap (λ x. x.others) is;
        mine = ap (λ x. x.own) is ∙ ap (λ l. v.own ++ l) (ap (drop (length tale)) grown ∙ drop-append_seam tale added);
        out = tale;
        begins = begins;
        seen = ap (λ x. x.seen) is ∙ grown;
      }

  -- by the seat's records the entries of its number are those of its own record
  pub own_of : (v : View N Told) (tale : List Told) → HasEntries (λ e. e.logged.seat) (records_of v) tale → entries_of (λ e. e.logged.seat) v.number tale ≡ v.own
  own_of v tale has = has 0 (record { number = v.number; entries = v.own }) (omega arith)
