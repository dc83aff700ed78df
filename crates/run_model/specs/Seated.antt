-- The seats under which a run took its turns.
use Rattle.std.specs.Prelude.{◌≡◌, ◌<◌, ◌≤◌, ◌++◌, ℕ, List, length, Some}
use Rattle.std.specs.List.{slice_get}
use Rattle.meta_model.specs.declared.event.Logged.{Logged}
use Rattle.meta_model.specs.declared.plan.Plan.{Plan}
use Rattle.tale_model.specs.Fates.{NoneRuns, fates_told}
use Rattle.run_model.specs.Seats.{BreaksLast}

-- each entry of a tale is of a seat of which this holds
abbrev pub EachSeat : (ℕ → Type 0) → List Logged → Type 0
EachSeat P tale = (place : ℕ) (entry : Logged) → slice_get tale place ≡ Some entry → P entry.seat

-- Each entry is of a seat that has one of so many benches: seat 0 has the last one, and seat k + 1 that of number k.
abbrev pub HaveBenches : ℕ → List Logged → Type 0
HaveBenches benches = EachSeat (λ seat. seat < benches)

-- The front of a tale was marked by workers, each under one of the seats 1 up to the plan's number of threads; behind it, where no task runs any
-- more, the calling thread went on alone, under seat 0. So at most as many tasks ran at once as there are threads. Each seat was left behind a
-- task of it that broke off.
pub record IsSeated (plan : Plan) (tale : List Logged) : Type 0 where
  pub front : List Logged
  pub back : List Logged
  pub cut : tale ≡ front ++ back
  pub workers : EachSeat (λ seat. (0 < seat) × (seat ≤ plan.threads)) front
  pub rests : NoneRuns (fates_told (length plan.tasks) front)
  pub alone : EachSeat (λ seat. seat ≡ 0) back
  pub left : BreaksLast tale
