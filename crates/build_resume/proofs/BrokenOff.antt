-- A task that broke off did so by the last entry of its seat.
use Rattle.std.proofs.Common.{◌≡◌, ◌∙◌, ap, refl, ℕ, zero, suc, List, [], ◌∷◌, ◌++◌, Some, None}
use Rattle.std.specs.List.{slice_get}
use Rattle.std.proofs.lemmas.List.Sums.{fold_push}
use Rattle.std.proofs.lemmas.Option.{none-some, same_Some}
use Rattle.meta_model.specs.declared.event.Logged.{Logged}
use Rattle.run_model.specs.Benches.{broken_at}
use Rattle.run_model.specs.Build.{IsBrokenOff}
use Rattle.run_model.specs.Runs.{broken_by, broken_off}
use Rattle.run_model.specs.Seats.{BreaksLast, is_break, own}
use Rattle.run_model.specs.Stands.{HasBroken}
use Rattle.build_resume.proofs.Seating.{own_split}
use Rattle.build_resume.proofs.Working.{own_step}

-- an entry of a tale stands between a front and a rest
record IsPlacedIn (tale : List Logged) (x : Logged) : Type 0 where
  front : List Logged
  rest : List Logged
  cut : tale ≡ front ++ x ∷ rest

placed_in : (tale : List Logged) (k : ℕ) (x : Logged) → slice_get tale k ≡ Some x → IsPlacedIn tale x
placed_in [] k x here = absurd (none-some x here)
placed_in (e ∷ tale) zero x here = record { front = []; rest = tale; cut = ap (λ (y : Logged). y ∷ tale) (same_Some e x here) }
placed_in (e ∷ tale) (suc k) x here =
    let p = placed_in tale k x here in
    record { front = e ∷ p.front; rest = p.rest; cut = ap (λ (l : List Logged). e ∷ l) p.cut }

-- Where no entry of a seat follows one of it that says that a task broke off, the task broke off by the last entry of its seat.
pub broke_last : (tale : List Logged) (t : ℕ) → BreaksLast tale → HasBroken tale t → IsBrokenOff tale t
broke_last tale t left b = record { broken = b; seat = b.entry.seat; last = last }
  where
    p : IsPlacedIn tale b.entry
    p = placed_in tale b.place b.entry b.is_entry

    mine : own b.entry.seat tale ≡ own b.entry.seat p.front ++ b.entry ∷ own b.entry.seat p.rest
    mine =
        ap (own b.entry.seat) p.cut ∙ own_split b.entry.seat p.front (b.entry ∷ p.rest)
        ∙ ap (λ (l : List Logged). own b.entry.seat p.front ++ l) (own_step b.entry.seat b.entry p.rest refl)

    none : own b.entry.seat p.rest ≡ []
    none = left b.entry.seat (own b.entry.seat p.front) (own b.entry.seat p.rest) b.entry mine (ap is_break b.breaks)

    last : broken_at b.entry.seat tale ≡ Some t
    last =
        ap broken_off (mine ∙ ap (λ (l : List Logged). own b.entry.seat p.front ++ b.entry ∷ l) none)
        ∙ fold_push (λ before entry. broken_by entry.event) None (own b.entry.seat p.front) b.entry
        ∙ ap broken_by b.breaks
