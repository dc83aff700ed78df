-- What the benches of a run did, each by its seat.
use Rattle.std.specs.Prelude.{◌≡◌, ◌<◌, ◌+◌, ℕ, true, List, [], ◌∷◌, ◌++◌, Option, Some, length, slice_index}
use Rattle.std.specs.List.{slice_get}
use Rattle.outside_traits.specs.Fault.{Rose}
use Rattle.meta_model.specs.declared.event.Logged.{Logged}
use Rattle.run_model.specs.Runs.{broken_off, started_in}
use Rattle.run_model.specs.Seats.{own, is_bench_break}

-- What holds of each bench of a list of workers, before and now, by its seat: the first one has seat 1, the next one 2.
pub record AtWorkers {A : Type 0} (P : ℕ → A → A → Type 0) (before now : List A) : Type 0 where
  pub long : length now ≡ length before
  pub each : (k : ℕ) (old new : A) → slice_get before k ≡ Some old → slice_get now k ≡ Some new → P (k + 1) old new

-- What holds of each bench of a run, before and now, by its seat: the last one is that of the calling thread, whose seat is 0; each other one is
-- a worker's.
pub record AtSeats {A : Type 0} (P : ℕ → A → A → Type 0) (before now : List A) : Type 0 where
  pub workers : List A
  pub workers_now : List A
  pub last : A
  pub last_now : A
  pub was : before ≡ workers ++ last ∷ []
  pub is : now ≡ workers_now ++ last_now ∷ []
  pub others : AtWorkers P workers workers_now
  pub alone : P 0 last last_now

-- the count of one of the list rose
abbrev pub SomeRose : List ℕ → List ℕ → Type 0
SomeRose before now = (k : ℕ) × (k < length before) × Rose (slice_index before k) (slice_index now k)

-- ---- of a tale

-- the tasks that a seat started, in order
abbrev pub started_by : ℕ → List Logged → List ℕ
started_by seat tale = started_in (own seat tale)

-- the task of a seat that broke off by the last entry of that seat, if that says so
abbrev pub broken_at : ℕ → List Logged → Option ℕ
broken_at seat tale = broken_off (own seat tale)

-- A seat has an event in the tale that a task broke off since its bench failed.
pub record BreaksBench (seat : ℕ) (tale : List Logged) : Type 0 where
  pub place : ℕ
  pub entry : Logged
  pub is_entry : slice_get tale place ≡ Some entry
  pub of : entry.seat ≡ seat
  pub breaks : is_bench_break entry.event ≡ true

-- where a seat's task broke off since its bench failed, the count of that bench rose
abbrev pub BreaksByFault : List Logged → ℕ → ℕ → ℕ → Type 0
BreaksByFault tale seat before now = BreaksBench seat tale → Rose before now
