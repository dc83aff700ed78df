-- Where an entry of a seat hadn't been printed, the shared state keeps a fault.
use Rattle.std.proofs.Common.{◌≡◌, ◌∙◌, sym, ap, refl, ℕ, zero, suc, ◌≤◌, ◌==◌, arith, Bool, true, false, if◌then◌else◌, List, [], ◌∷◌, ◌++◌, length}
use Rattle.std.specs.Prelude.{IsSome, ◌&&◌}
use Rattle.std.specs.List.{list_all}
use Rattle.std.proofs.lemmas.Bool.{false≢true}
use Rattle.std.proofs.lemmas.List.Folds.{list_all-append}
use Rattle.outside_traits.specs.Story.{Story}
use Rattle.meta_model.specs.CleanBuild.{Gives}
use Rattle.meta_model.specs.declared.event.Logged.{Logged}
use Rattle.run_queue.specs.Seen.{RunView, Seen}
use Rattle.turn_lock.specs.Views.{entries_of}
use Rattle.run_workers.specs.declared.shared.Told.{Told}
use Rattle.run_workers.specs.Seats.{HasUnprinted}
use Rattle.run_workers.specs.Since.{Kept}
use Rattle.run_workers.specs.Told.{told}

-- where all of a tale had been printed, each entry had
all_told : (tale : List Logged) (n : ℕ) → length tale ≤ n → list_all (λ e. e.printed) (told tale n) ≡ true
all_told [] n le = refl
all_told (e ∷ tale) zero le = absurd (omega (arith, le))
all_told (e ∷ tale) (suc n) le = all_told tale n (omega (arith, le))

both : (a b : Bool) → (a && b) ≡ true → (a ≡ true) × (b ≡ true)
both true b h = (refl, h)
both false b h = absurd (false≢true h)

-- what was printed whole was so for each seat
all_own : (n : ℕ) (tale : List Told) → list_all (λ e. e.printed) tale ≡ true → list_all (λ e. e.printed) (entries_of (λ e. e.logged.seat) n tale) ≡ true
all_own n [] all = refl
all_own n (e ∷ tale) all =
    let h = both e.printed (list_all (λ x. x.printed) tale) all in
    by (e.logged.seat == n) h.0 (all_own n tale h.1)
  where
    rest : List Told
    rest = entries_of (λ x. x.logged.seat) n tale

    by : (b : Bool) → e.printed ≡ true → list_all (λ x. x.printed) rest ≡ true → list_all (λ x. x.printed) (if b then e ∷ rest else rest) ≡ true
    by true here more = ap (λ p. p && list_all (λ x. x.printed) rest) here ∙ more
    by false here more = more

-- an entry that comes without is one
pub unprinted_here : (mine : List Told) (e : Told) → e.printed ≡ false → HasUnprinted (mine ++ e ∷ [])
unprinted_here mine e is =
    list_all-append (λ x. x.printed) mine (e ∷ [])
    ∙ ap (λ b. list_all (λ x. x.printed) mine && (b && true)) is
    ∙ by (list_all (λ x. x.printed) mine)
  where
    by : (b : Bool) → (b && false) ≡ false
    by true = refl
    by false = refl

module _ {D W : Type 0} (dt wt alike : Type 0) (story : D → Story) (written : W → List ℕ) (faults : W → ℕ) (first : Seen) (count : ℕ) (gives : Gives) where
  pub faulty_by : (s : RunView D W) (printed : ℕ) (whole : Bool) (n : ℕ) (mine : List Told) → Kept dt wt alike story written faults first count gives (record { state = s; printed = printed; whole = whole })
      → entries_of (λ e. e.logged.seat) n (told s.tale printed) ≡ mine → HasUnprinted mine → IsSome s.fault
  faulty_by s printed whole n mine kept is some = by whole refl
    where
      by : (b : Bool) → whole ≡ b → IsSome s.fault
      by true e =
          let all = all_told s.tale printed (let same = (kept.whole e).1 in omega (arith, same)) in
          absurd (false≢true (sym some ∙ ap (list_all (λ x. x.printed)) (sym is) ∙ all_own n (told s.tale printed) all))
      by false e = kept.faulty e
