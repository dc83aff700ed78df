-- What a state of a run has of the state as it began: whatever held of that holds of this.
use Rattle.std.specs.Prelude.{◌≡◌, ◌≤◌, ℕ, ◌++◌, Bool, true, false, List, length, take, None, IsSome}
use Rattle.outside_traits.specs.Fault.{Counts}
use Rattle.outside_traits.specs.Story.{Story}
use Rattle.meta_model.specs.CleanBuild.{Gives}
use Rattle.run_model.specs.Report.{tale_text}
use Rattle.run_model.specs.Opening.{Opening}
use Rattle.run_queue.specs.Keeps.{IsFront, IsRun, IsSteady, Prints}
use Rattle.run_queue.specs.Seen.{RunView, Seen, seen}

-- What contracts see of a shared state: the state, how much of its tale had been printed, and whether that is all of it and no fault is kept.
pub record SharedView (D W : Type 0) : Type 0 where
  pub state : RunView D W
  pub printed : ℕ
  pub whole : Bool

module _ {D W : Type 0} (disk_tells sink_tells alike : Type 0) (story : D → Story) (written : W → List ℕ) (faults : W → ℕ) (first : Seen) (count : ℕ) (gives : Gives) where
  -- `first` is the state as the run began, and `count` what its sink's count of faults was then. What is kept over an opening is so for those
  -- by which scripts give what they give on the run's benches, where these are alike.
  pub record Since (now : RunView D W) : Type 0 where
    pub plan : now.plan ≡ first.plan
    pub options : now.options ≡ first.options
    pub run : disk_tells → alike → (o : Opening) → o.gives ≡ gives → IsRun o first → IsRun o (seen story written now)
    pub steady : disk_tells → alike → (o : Opening) → o.gives ≡ gives → IsRun o first → IsSteady first.fault → IsSteady now.fault
    pub sink : (before : ℕ) → Counts before count first.sink_failed → Counts before (faults now.sink) now.sink_failed
    pub text : sink_tells → (base : List ℕ) → Prints base first.written (tale_text first.plan.tasks first.tale) first.sink_failed → Prints base (written now.sink) (tale_text now.plan.tasks now.tale) now.sink_failed
    pub stays : sink_tells → (front : List ℕ) → IsFront front first.written → IsFront front (written now.sink)

  -- What a shared state keeps: that, and that the lines of what had been printed of its tale stand whole behind what was written before.
  pub record Kept (s : SharedView D W) : Type 0 where
    pub since : Since s.state
    pub within : s.printed ≤ length s.state.tale
    pub whole : s.whole ≡ true → (s.state.fault ≡ None) × (s.printed ≡ length s.state.tale)
    pub faulty : s.whole ≡ false → IsSome s.state.fault
    pub lines : sink_tells → (base : List ℕ) → Prints base first.written (tale_text first.plan.tasks first.tale) first.sink_failed → IsFront (base ++ tale_text s.state.plan.tasks (take s.printed s.state.tale)) (written s.state.sink)
