-- Seats of a tale's entries, and breaks of a bench.
use Rattle.std.specs.Prelude.{◌≡◌, ◌<◌, ◌≤◌, ℕ, List, Some}
use Rattle.std.specs.List.{slice_get}
use Rattle.meta_model.specs.declared.event.Logged.{Logged}
use Rattle.run_model.specs.Benches.{BreaksBench}

-- each entry of a tale is of a worker's seat, up to this number
abbrev pub HasSeats : ℕ → List Logged → Type 0
HasSeats n tale = (place : ℕ) (entry : Logged) → slice_get tale place ≡ Some entry → (0 < entry.seat) × (entry.seat ≤ n)

-- a task of some seat broke off since its bench failed
abbrev pub SomeBreak : List Logged → Type 0
SomeBreak tale = (seat : ℕ) × BreaksBench seat tale
