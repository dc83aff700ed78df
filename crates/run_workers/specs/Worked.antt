-- What a worker did on its bench, by the own entries of its seat.
use Rattle.std.specs.Prelude.{◌≡◌, ◌⊎◌, ◌≤◌, ℕ, suc, List, [], ◌∷◌, ◌++◌, Bool, true, false, Option, Some, IsSome, take}
use Rattle.outside_traits.specs.Bench.{Workplace}
use Rattle.outside_traits.specs.Fault.{Counts, Rose}
use Rattle.meta_model.specs.declared.event.Event.{Event}
use Rattle.meta_model.specs.declared.event.Logged.{Logged}
use Rattle.meta_model.specs.declared.plan.Plan.{Plan}
use Rattle.meta_model.specs.CleanBuild.{Entries, Gives}
use Rattle.run_model.specs.Report.{is_started}
use Rattle.run_model.specs.Opening.{Opening}
use Rattle.run_model.specs.Runs.{RanScripts, Runs, broken_off, started_in}
use Rattle.run_model.specs.Seats.{own, is_bench_break, is_break, RanStarted}
use Rattle.turn_lock.specs.declared.rule.Record.{Record}
use Rattle.turn_lock.specs.declared.rule.View.{View}
use Rattle.run_queue.specs.Keeps.{IsRun}
use Rattle.run_queue.specs.Seen.{Seen}
use Rattle.run_workers.specs.declared.shared.Told.{Told}
use Rattle.run_workers.specs.declared.worker.Halt.{Halt}
use Rattle.run_workers.specs.Runs.{RanSoFar, ScriptsSoFar, by_bench}
use Rattle.run_workers.specs.Seats.{HoldsNone}
use Rattle.run_workers.specs.Told.{logged_in, printed_in}

-- in these entries no task broke off
abbrev pub NoneBroke : List Logged → Type 0
NoneBroke [] = Unit {0}
NoneBroke (e ∷ tale) = (is_break e.event ≡ false) × NoneBroke tale

-- In the entries of one seat no task broke off, but maybe by the last one, where the seat's worker `halts`; by a bench only where that `failed`.
pub record Breaks (halts failed : Type 0) (mine : List Logged) : Type 0 where
  pub front : List Logged
  pub back : List Logged
  pub cut : mine ≡ front ++ back
  pub before : NoneBroke front
  pub last : (back ≡ []) ⊎ ((entry : Logged) × (back ≡ entry ∷ []) × halts × (is_bench_break entry.event ≡ true → failed))

-- the job of a seat came to an end, by an entry of its own, in a worker that halts or goes on
pub record Closes (n : ℕ) (halt : Option Halt) (old new : List Told) : Type 0 where
  pub event : Event
  pub moment : ℕ
  pub printed : Bool
  pub is : new ≡ old ++ record { logged = record { event = event; seat = n; moment = moment }; printed = printed } ∷ []
  pub quiet : is_started event ≡ false
  pub breaks : is_break event ≡ true → IsSome halt × (is_bench_break event ≡ true → by_bench halt ≡ true)

-- a run of a job, of which it is known whether its start had been printed: it was made, or the job broke off
abbrev pub RanOnce : Bool → Type 0 → List ℕ × Entries → Runs → Runs → Type 0
RanOnce printed broke run before now = ((printed ≡ true) × (now ≡ before ++ run ∷ [])) ⊎ (broke × (now ≡ before))

-- the job of a task broke off, by a seat's entries, in a worker that halts
abbrev pub BrokeOff : ℕ → Option Halt → List Logged → Type 0
BrokeOff t halt mine = IsSome halt × (broken_off mine ≡ Some t)

-- the bench ran what was started in these entries, over the clean outputs of what it needs
pub record RanMine (gives : Gives) (plan : Plan) (halt : Option Halt) (mine : List Logged) (before now : Runs) : Type 0 where
  pub runs : Runs
  pub ran : now ≡ before ++ runs
  pub these : RanSoFar gives plan halt (broken_off mine) (started_in mine) runs

-- the bench ran the scripts of what was started in those of a seat's entries that had been printed
pub record SaidMine (plan : Plan) (halt : Option Halt) (mine said : List Logged) (before now : Runs) : Type 0 where
  pub runs : Runs
  pub ran : now ≡ before ++ runs
  pub these : ScriptsSoFar plan halt (broken_off mine) (started_in said) runs

-- The bench ran the scripts of what was started in those of its seat's entries that had been printed, but for maybe the last one, where the
-- last of all its entries says that it broke off.
pub record RanPrinted (plan : Plan) (mine said : List Logged) (before now : Runs) : Type 0 where
  pub runs : Runs
  pub ran : now ≡ before ++ runs
  pub these : RanScripts plan (broken_off mine) (started_in said) runs

module _ {N : Type 0} where
  -- a seat of number 0 that has so many numbers to spare, no entries and no records of others
  pub record HasBegun (spare : ℕ) (v : View N Told) : Type 0 where
    pub number : v.number ≡ 0
    pub spares : v.spare ≡ spare
    pub mine : v.own ≡ []
    pub others : v.others ≡ []

  -- a seat of number 0 that has none to spare, and no entries
  pub record IsJoined (v : View N Told) : Type 0 where
    pub number : v.number ≡ 0
    pub spares : v.spare ≡ 0
    pub mine : v.own ≡ []

module _ {B : Type 0} (disk_tells bench_tells alike : Type 0) (place : B → Workplace) (gives_of : B → Gives) (faults : B → ℕ) (first : Seen) (gives : Gives) where
  -- What a worker did so far, or up to where it halts, by the entries that its seat of a number has in its own record: it has no job in hand; the
  -- bench gives what it gave, and failed where the worker says so; it ran what was started, and only what had been printed.
  pub record Worked (halt : Option Halt) (n : ℕ) (mine : List Told) (old new : B) : Type 0 where
    pub none : HoldsNone n mine
    pub same : gives_of new ≡ gives_of old
    pub cause : Counts (faults old) (faults new) (by_bench halt)
    pub breaks : Breaks (IsSome halt) (by_bench halt ≡ true) (logged_in mine)
    pub ran : disk_tells → alike → (o : Opening) → o.gives ≡ gives → IsRun o first → RanMine gives first.plan halt (logged_in mine) (place old).runs (place new).runs
    pub said : bench_tells → SaidMine first.plan halt (logged_in mine) (printed_in mine) (place old).runs (place new).runs

  -- what a worker that halted did
  abbrev pub IsWorked : ℕ → List Told → B → B → Type 0
  IsWorked n mine old new = (halt : Option Halt) × Worked halt n mine old new

  -- of some benches, each with a worker that halted and whose seat has the next number, by the records of these seats
  abbrev pub AllWorked : ℕ → List B → List B → List (Record Told) → Type 0
  AllWorked n [] [] [] = Unit {0}
  AllWorked n [] [] (r ∷ records) = ⊥
  AllWorked n [] (new ∷ news) records = ⊥
  AllWorked n (old ∷ olds) [] records = ⊥
  AllWorked n (old ∷ olds) (new ∷ news) [] = ⊥
  AllWorked n (old ∷ olds) (new ∷ news) (r ∷ records) = (r.number ≡ n) × IsWorked n r.entries old new × AllWorked (suc n) olds news records

  -- What a bench did in a run, by its tale, of which so many entries at the front had been printed, and by the number of its seat.
  pub record Did (tale : List Logged) (printed n : ℕ) (old new : B) : Type 0 where
    pub same : gives_of new ≡ gives_of old
    pub later : faults old ≤ faults new
    pub breaks : Breaks (Unit {0}) (Rose (faults old) (faults new)) (own n tale)
    pub ran : disk_tells → alike → (o : Opening) → o.gives ≡ gives → IsRun o first → RanStarted gives first.plan (own n tale) (place old).runs (place new).runs
    pub said : bench_tells → RanPrinted first.plan (own n tale) (own n (take printed tale)) (place old).runs (place new).runs
