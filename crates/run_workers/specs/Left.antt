-- What is left of a run once one seat has the records of all.
use Rattle.std.specs.Prelude.{◌≡◌, ◌<◌, ◌≤◌, ◌++◌, ℕ, suc, Bool, List, All, Some, None, length, take}
use Rattle.std.specs.List.{slice_get}
use Rattle.outside_traits.specs.Bench.{Workplace}
use Rattle.outside_traits.specs.Story.{Story}
use Rattle.meta_model.specs.CleanBuild.{Gives}
use Rattle.run_model.specs.Report.{tale_text}
use Rattle.tale_model.specs.Fates.{NoneRuns}
use Rattle.run_queue.specs.Keeps.{IsFront, Prints}
use Rattle.run_queue.specs.Seen.{RunView, Seen}
use Rattle.run_queue.specs.Turns.{fates_of}
use Rattle.turn_lock.specs.declared.rule.Record.{Record}
use Rattle.turn_lock.specs.Views.{HasEntries, HasNoOthers}
use Rattle.run_workers.specs.declared.shared.Told.{Told}
use Rattle.run_workers.specs.Since.{Kept, Since}
use Rattle.run_workers.specs.Told.{told}
use Rattle.run_workers.specs.Worked.{Did}

module _ {D W : Type 0} (disk_tells sink_tells alike : Type 0) (story : D → Story) (written : W → List ℕ) (faults : W → ℕ) (first : Seen) (count : ℕ) (gives : Gives) where
  -- The state keeps what held as the run began. Its tale, of which so many entries at the front had been printed, has just the entries of these
  -- records, each of them in its order.
  pub record IsLeft (records : List (Record Told)) (now : RunView D W) : Type 0 where
    pub printed : ℕ
    pub whole : Bool
    pub kept : Kept disk_tells sink_tells alike story written faults first count gives (record { state = now; printed = printed; whole = whole })
    pub entries : HasEntries (λ e. e.logged.seat) records (told now.tale printed)
    pub others : HasNoOthers (λ e. e.logged.seat) records (told now.tale printed)

module _ {D B W : Type 0} (disk_tells bench_tells sink_tells alike : Type 0) (story : D → Story) (place : B → Workplace) (gives_of : B → Gives) (bench_faults : B → ℕ) (written : W → List ℕ) (faults : W → ℕ) (first : Seen) (count : ℕ) (gives : Gives) where
  -- What the workers of a run left of its state and of their benches, by how much of the tale had been printed.
  pub record AllDid (olds news : List B) (now : RunView D W) : Type 0 where
    pub printed : ℕ
    pub since : Since disk_tells sink_tells alike story written faults first count gives now
    pub lines : sink_tells → (base : List ℕ) → Prints base first.written (tale_text first.plan.tasks first.tale) first.sink_failed → IsFront (base ++ tale_text now.plan.tasks (take printed now.tale)) (written now.sink)
    pub heard : now.fault ≡ None → printed ≡ length now.tale
    pub none : NoneRuns (fates_of now)
    pub seats : All (λ e. (0 < e.seat) × (e.seat ≤ length olds)) now.tale
    pub many : length news ≡ length olds
    pub each : (k : ℕ) (old new : B) → slice_get olds k ≡ Some old → slice_get news k ≡ Some new → Did disk_tells bench_tells alike place gives_of bench_faults first gives now.tale printed (suc k) old new
