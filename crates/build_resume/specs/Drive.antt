-- What the turns of a run on one seat do.
use Rattle.std.specs.List.{slice_get}
use Rattle.std.specs.Prelude.{◌≡◌, ◌⊎◌, ◌≢◌, ◌+◌, ◌*◌, ℕ, true, false, List, [], ◌∷◌, ◌++◌, Option, Some, None, IsSome}
use Rattle.meta_model.specs.declared.event.Event.{Event}
use Rattle.meta_model.specs.declared.event.Event.TheVariants as events
use Rattle.meta_model.specs.declared.event.Logged.{Logged}
use Rattle.meta_model.specs.declared.plan.Plan.{Plan}
use Rattle.meta_model.specs.CleanBuild.{Gives}
use Rattle.run_model.specs.Report.{tale_text}
use Rattle.tale_model.specs.declared.fate.Fate.{Fate}
use Rattle.tale_model.specs.declared.fate.Fate.TheVariants as fate
use Rattle.tale_model.specs.Fates.{HoldsFailure, fate_by, is_running, task_of}
use Rattle.run_queue.specs.Seen.{RunView}
use Rattle.run_model.specs.Outcome.{IsAtEnd}
use Rattle.run_model.specs.Ends.{bench_broke}
use Rattle.run_queue.specs.Turns.{Marks, fates_of}
use Rattle.run_queue.specs.declared.fault.RunFault.{RunFault}
use Rattle.run_workers.specs.declared.worker.Halt.{Halt}
use Rattle.run_workers.specs.declared.worker.Halt.TheVariants as halts
use Rattle.run_queue.specs.declared.state.Claim.{Claim}
use Rattle.run_queue.specs.declared.state.Claim.TheVariants as claim
use Rattle.run_workers.specs.Runs.{RanSoFar, ScriptsSoFar, by_bench}
use Rattle.run_model.specs.Runs.{Runs}
use Rattle.run_model.specs.Seats.{is_bench_break, is_break}
use Rattle.run_workers.specs.Worked.{Breaks}
use Rattle.run_model.specs.Benches.{AtWorkers, BreaksBench, BreaksByFault, broken_at, started_by}
use Rattle.run_model.specs.Build.{RanJust, RanStarted}

-- events that only seat 0 marked
pub record IsAlone (more : List Logged) : Type 0 where
  pub seats : (place : ℕ) (entry : Logged) → slice_get more place ≡ Some entry → entry.seat ≡ 0

-- A tale that seat 0 went on with. A task broke off since its bench failed only where that was the last turn.
pub record Grows (halt : Option Halt) (old new : List Logged) : Type 0 where
  pub more : List Logged
  pub is : new ≡ old ++ more
  pub alone : IsAlone more
  pub breaks : BreaksBench 0 more → by_bench halt ≡ true

-- A tale that went on with entries of which only the last one may say that a task broke off, and only where the run `stops`.
pub record Broken (stops : Type 0) (old new : List Logged) : Type 0 where
  pub more : List Logged
  pub is : new ≡ old ++ more
  pub breaks : Breaks stops (Unit {0}) more

-- an entry behind a tale says that a task broke off only where the run halts, or a fault is kept
abbrev pub BreaksBy : Option Halt → Option RunFault → List Logged → List Logged → Type 0
BreaksBy halt fault old new = (entry : Logged) → new ≡ old ++ entry ∷ [] → is_break entry.event ≡ true → IsSome halt ⊎ IsSome fault

-- What a run did: its tale went on, and the bench ran what was started, but where it halted for maybe the last one, if that broke off.
pub record Drove (gives : Gives) (plan : Plan) (halt : Option Halt) (old new : List Logged) (before now : Runs) : Type 0 where
  pub more : List Logged
  pub tale : new ≡ old ++ more
  pub runs : Runs
  pub ran : now ≡ before ++ runs
  pub these : RanSoFar gives plan halt (broken_at 0 more) (started_by 0 more) runs

-- What ran so far had been printed, as far as a front of the tale, which goes on from the front as it was at first. Where the run goes on
-- and no fault is kept that is the whole tale, and nothing else was written.
pub record RanSaid (plan : Plan) (halt : Option Halt) (fault : Option RunFault) (from tale : List Logged) (before now : Runs) (base written : List ℕ) : Type 0 where
  pub front : List Logged
  pub back : List Logged
  pub cut : tale ≡ front ++ back
  pub on : List Logged
  pub goes : front ≡ from ++ on
  pub alone : IsAlone on
  pub runs : Runs
  pub ran : now ≡ before ++ runs
  pub these : ScriptsSoFar plan halt (broken_at 0 tale) (started_by 0 front) runs
  pub rest : List ℕ
  pub is : written ≡ base ++ (tale_text plan.tasks front ++ rest)
  pub whole : halt ≡ None → fault ≡ None → (back ≡ []) × (rest ≡ [])

-- What workers ran had been printed, as far as a front of the tale. Where no fault is kept that is the whole tale, and nothing else was
-- written.
pub record SaidByWorkers {B : Type 0} (runs : B → Runs) (plan : Plan) (fault : Option RunFault) (tale : List Logged) (before now : List B) (base written : List ℕ) : Type 0 where
  pub front : List Logged
  pub back : List Logged
  pub cut : tale ≡ front ++ back
  pub ran : AtWorkers (λ seat old new. RanJust plan (broken_at seat tale) (started_by seat front) (runs old) (runs new)) before now
  pub none : started_by 0 front ≡ []
  pub rest : List ℕ
  pub is : written ≡ base ++ (tale_text plan.tasks front ++ rest)
  pub whole : fault ≡ None → (back ≡ []) × (rest ≡ [])

-- What ran to the end had been printed, as far as a front of the tale, which goes on from this one.
pub record SaidTo (plan : Plan) (from tale : List Logged) (before now : Runs) (base written : List ℕ) : Type 0 where
  pub front : List Logged
  pub back : List Logged
  pub cut : tale ≡ front ++ back
  pub on : List Logged
  pub goes : front ≡ from ++ on
  pub alone : IsAlone on
  pub ran : RanJust plan (broken_at 0 tale) (started_by 0 front) before now
  pub rest : List ℕ
  pub written_is : written ≡ base ++ (tale_text plan.tasks front ++ rest)

-- A tale that seat 0 went on with to its end. A task of it broke off since its bench failed only where the count of the last bench rose.
pub record WentOn (old new : List Logged) (before now : ℕ) : Type 0 where
  pub more : List Logged
  pub is : new ≡ old ++ more
  pub alone : IsAlone more
  pub breaks : BreaksByFault more 0 before now
  pub left : Breaks (Unit {0}) (Unit {0}) more

-- the bench ran what seat 0 started behind a tale
pub record RanOn (gives : Gives) (plan : Plan) (old new : List Logged) (before now : Runs) : Type 0 where
  pub more : List Logged
  pub is : new ≡ old ++ more
  pub ran : RanStarted gives plan more 0 before now

-- the job of a task came to an end, under seat 0; it broke off since the bench failed only where that was the last turn
pub record ClosesAlone (t : ℕ) (halt : Option Halt) (old new : List Logged) : Type 0 where
  pub event : Event
  pub marks : Marks 0 event old new
  pub of : task_of event ≡ t
  pub rests : is_running (fate_by event) ≡ false
  pub starts_none : (seat : ℕ) → event ≡ events.Started t seat → ⊥
  pub breaks : is_bench_break event ≡ true → by_bench halt ≡ true

-- where the run goes on, its task doesn't wait again, or a fault is kept
abbrev pub GoesOnBehind : {D W : Type 0} → ℕ → RunView D W → Option Halt → Type 0
GoesOnBehind t new halt = halt ≡ None → (Rattle.tale_model.specs.Fates.fate_at (fates_of new) t ≢ fate.Waiting) ⊎ IsSome new.fault

-- 1 for a task that waits
abbrev pub waits_once : Fate → ℕ
waits_once fate.Waiting = 1
waits_once _ = 0

-- how many tasks wait
abbrev pub waiting_count : List Fate → ℕ
waiting_count [] = 0
waiting_count (f ∷ fates) = waits_once f + waiting_count fates

abbrev pub fault_once : Option RunFault → ℕ
fault_once None = 1
fault_once (Some f) = 0

-- How far a run is from its end, at most: each turn but the last one settles a task, or keeps the first fault.
abbrev pub left_over : {D W : Type 0} → RunView D W → ℕ
left_over s = 2 * waiting_count (fates_of s) + fault_once s.fault

-- what the calling thread does by itself: it waits for nobody, and what it is to restore it restores
abbrev pub IsTaken : Claim → Type 0
IsTaken (claim.Run job) = Unit {0}
IsTaken (claim.Settled t) = Unit {0}
IsTaken (claim.Restore t) = ⊥
IsTaken claim.Wait = ⊥
IsTaken claim.Finished = Unit {0}
IsTaken claim.Stopped = Unit {0}

-- Why a run halted. Where its bench failed, a task broke off by that, or a fault is kept.
abbrev pub IsHalted : {D W : Type 0} → RunView D W → Halt → Type 0
IsHalted new halts.Finished = IsAtEnd new.plan new.options new.tale
IsHalted new halts.Stopped = (HoldsFailure (fates_of new) × (new.options.keep_going ≡ false)) ⊎ IsSome new.fault
IsHalted new halts.Memory = Unit {0}
IsHalted new halts.Bench = (bench_broke new.tale ≡ true) ⊎ IsSome new.fault
