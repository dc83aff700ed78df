-- Where no record has a job in hand, and there is no other entry, no task runs.
use Rattle.std.proofs.Common.{◌≡◌, ◌≢◌, sym, ◌∙◌, ap, refl, ℕ, zero, suc, ◌<◌, ◌↔◌, Bool, true, List, [], ◌∷◌, length, get_or, Some, None, ◌⊎◌, inl, inr, if◌then◌else◌, All, arith, ne_eqb, eqb}
use Rattle.std.proofs.lemmas.Bool.{cases_eq}
use Rattle.meta_model.specs.declared.event.Event.TheVariants as events
use Rattle.meta_model.specs.declared.event.Logged.{Logged}
use Rattle.tale_model.specs.declared.fate.Fate.{Fate}
use Rattle.tale_model.specs.declared.fate.Fate.TheVariants.{Waiting, Running, Found, Restored, Ended, Failed}
use Rattle.tale_model.specs.Fates.{fate_at, is_running, NoneRuns}
use Rattle.run_core.specs.History.{last_of}
use Rattle.turn_lock.specs.declared.rule.Record.{Record}
use Rattle.turn_lock.specs.Totals.{once}
use Rattle.turn_lock.specs.Views.{HasEntries, HasNoOthers, entries_of, numbered}
use Rattle.run_workers.specs.declared.shared.Told.{Told}
use Rattle.run_workers.specs.Seats.{NoneHold}
use Rattle.run_workers.specs.Told.{told}
use Rattle.run_workers.proofs.Turning.{last_own}

running_is : (f : Fate) → is_running f ≡ true → (seat : ℕ) × (f ≡ Running seat)
running_is Waiting e = absurd cc
running_is (Running seat) e = (seat, refl)
running_is Found e = absurd cc
running_is Restored e = absurd cc
running_is Ended e = absurd cc
running_is Failed e = absurd cc

none_by : (n : ℕ) (tale : List Told) → All (λ e. e.logged.seat ≢ n) tale → entries_of (λ e. e.logged.seat) n tale ≡ []
none_by n [] others = refl
none_by n (e ∷ tale) others =
    ap (λ (b : Bool). if b then e ∷ entries_of (λ e. e.logged.seat) n tale else entries_of (λ e. e.logged.seat) n tale) (ne_eqb e.logged.seat n (others 0 e (omega arith)))
    ∙ none_by n tale (λ k d l. others (suc k) d (omega (arith, l)))

-- a record of a number that some record has
pub some_record : (n : ℕ) (records : List (Record Told)) → 0 < numbered n records → (k : ℕ) × (k < length records) × ((d : Record Told) → (get_or records k d).number ≡ n)
some_record n [] some = absurd (omega (arith, some))
some_record n (r ∷ records) some = elim (cases_eq r.number n) [
  | inl same ↦ (0, omega arith, λ d. same)
  | inr ne ↦ let z : once (eqb r.number n) ≡ 0 = ap once (ne_eqb r.number n ne) in
      let more = some_record n records (omega (arith, some, z)) in (suc more.0, omega (arith, more.1), more.2)
]

some_by : (n : ℕ) (records : List (Record Told)) → (0 < numbered n records) ⊎ (numbered n records ≡ 0)
some_by n records = at (numbered n records)
  where
    at : (k : ℕ) → (0 < k) ⊎ (k ≡ 0)
    at zero = inr refl
    at (suc k) = inl (omega arith)

pub none_run : (fates : List Fate) (tale : List Logged) (k : ℕ) (records : List (Record Told))
    → ((t seat : ℕ) → (fate_at fates t ≡ Running seat) ↔ (last_of seat tale ≡ Some (events.Started t seat)))
    → HasEntries (λ e. e.logged.seat) records (told tale k) → HasNoOthers (λ e. e.logged.seat) records (told tale k) → NoneHold records → NoneRuns fates
none_run fates tale k records law has others none t runs =
    let run = running_is (fate_at fates t) runs in
    let seat = run.0 in
    let last = (law t seat).0 run.1 in
    elim (some_by seat records) [
      | inl some ↦
          let at = some_record seat records some in
          let d : Record Told = record { number = seat; entries = [] } in
          let r = get_or records at.0 d in
          none at.0 d at.1 t
          (last_own r.number tale k r.entries (has at.0 d at.1) ∙ ap (λ n. last_of n tale) (at.2 d) ∙ last ∙ ap (λ n. Some (events.Started t n)) (sym (at.2 d)))
      | inr nowhere ↦
          let empty = none_by seat (told tale k) (λ j e l is. let h = others j e l in let z = ap (λ n. numbered n records) is in omega (arith, h, z, nowhere)) in
          let same : Some (events.Started t seat) ≡ None = sym last ∙ sym (last_own seat tale k [] empty) in
          cc
    ]

-- where no event was marked no task runs
pub none_runs_first : (fates : List Fate) (tale : List Logged) → ((t seat : ℕ) → (fate_at fates t ≡ Running seat) ↔ (last_of seat tale ≡ Some (events.Started t seat))) → tale ≡ [] → NoneRuns fates
none_runs_first fates tale law none t runs =
    let run = running_is (fate_at fates t) runs in
    let same : Some (events.Started t run.0) ≡ None = sym ((law t run.0).0 run.1) ∙ ap (last_of run.0) none in
    cc
