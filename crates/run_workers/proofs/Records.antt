-- How a turn changes what a seat's own record says.
use Rattle.std.proofs.Common.{◌≡◌, sym, ◌∙◌, ap, refl, ℕ, ◌==◌, Bool, true, false, List, [], ◌∷◌, ◌++◌, Some, None, if◌then◌else◌, eq-eqb}
use Rattle.std.proofs.lemmas.List.Sums.{fold_push}
use Rattle.meta_model.specs.declared.event.Event.{Event}
use Rattle.meta_model.specs.declared.event.Event.TheVariants as events
use Rattle.meta_model.specs.declared.event.Logged.{Logged}
use Rattle.run_model.specs.Report.{is_started}
use Rattle.run_core.specs.History.{last_of}
use Rattle.run_workers.specs.declared.shared.Told.{Told}
use Rattle.run_workers.specs.Seats.{HoldsNone}
use Rattle.run_workers.specs.Told.{logged_in}
use Rattle.run_workers.proofs.Telling.{logged_split}

module _ (n : ℕ) (mine : List Told) (event : Event) (moment : ℕ) (printed : Bool) where
  abbrev entry : Logged
  entry = record { event = event; seat = n; moment = moment }

  abbrev telling : Told
  telling = record { logged = entry; printed = printed }

  -- the last event of a seat is the one that it added last
  pub last_added : last_of n (logged_in (mine ++ telling ∷ [])) ≡ Some event
  last_added =
      ap (last_of n) (logged_split mine (telling ∷ []))
      ∙ fold_push (λ last entry. if entry.seat == n then Some entry.event else last) None (logged_in mine) entry
      ∙ ap (λ (b : Bool). if b then Some event else last_of n (logged_in mine)) (eq-eqb n n refl)

  -- so it has no job in hand behind an event that is no start
  pub none_added : is_started event ≡ false → HoldsNone n (mine ++ telling ∷ [])
  none_added quiet t last =
      let same : Some event ≡ Some (events.Started t n) = sym last_added ∙ last in
      let is : event ≡ events.Started t n = cc in
      let bad : true ≡ false = sym (ap is_started is) ∙ quiet in
      cc

-- a seat without entries has none
pub none_first : (n : ℕ) (mine : List Told) → mine ≡ [] → HoldsNone n mine
none_first n mine is t last = let same : Some (events.Started t n) ≡ None = sym last ∙ ap (λ (l : List Told). last_of n (logged_in l)) is in cc
