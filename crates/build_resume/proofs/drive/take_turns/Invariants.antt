use Rattle.std.proofs.Common.{◌≡◌, ℕ, List, IsSome, None}
use Rattle.outside_traits.specs.Fault.{Counts}
use Rattle.meta_model.specs.declared.event.Logged.{Logged}
use Rattle.tale_model.specs.Fates.{NoneRuns}
use Rattle.run_model.specs.Report.{tale_text}
use Rattle.run_model.specs.Opening.{Opening}
use Rattle.run_queue.specs.Seen.{seen}
use Rattle.run_queue.specs.Keeps.{IsRun, IsSteady, Prints}
use Rattle.run_queue.specs.Turns.{SameRun, fates_of}
use Rattle.run_model.specs.Runs.{Runs}
use Rattle.build_resume.specs.Drive.{Broken, Drove, Grows, RanSaid, left_over}
use Rattle.build_resume.proofs.drive.take_turns.Given as goal

abbrev pub invariant-loop-halt : goal.invariant-loop-halt
invariant-loop-halt g l = record {
  none : NoneRuns (fates_of l.state);
  same : SameRun l.fn.state l.state;
  grows : Grows None l.fn.state.tale l.state.tale;
  broken : Broken (IsSome l.state.fault) l.fn.state.tale l.state.tale;
  sink : (before : ℕ) → Counts before (g.W.Sink.faults l.fn.state.sink) l.fn.state.sink_failed → Counts before (g.W.Sink.faults l.state.sink) l.state.sink_failed;
  text : g.W.Sink.tells → (base : List ℕ) → Prints base (g.W.Sink.written l.fn.state.sink) (tale_text l.fn.state.plan.tasks l.fn.state.tale) l.fn.state.sink_failed → Prints base (g.W.Sink.written l.state.sink) (tale_text l.fn.state.plan.tasks l.state.tale) l.state.sink_failed;
  printed : g.W.Sink.tells → g.B.Bench.tells → (from : List Logged) (base : List ℕ) (before : Runs) → RanSaid l.fn.state.plan None l.fn.state.fault from l.fn.state.tale before (g.B.Bench.place l.fn.bench).runs base (g.W.Sink.written l.fn.state.sink) → RanSaid l.fn.state.plan None l.state.fault from l.state.tale before (g.B.Bench.place l.bench).runs base (g.W.Sink.written l.state.sink);
  gives : g.B.Bench.gives l.bench ≡ g.B.Bench.gives l.fn.bench;
  faults : g.B.Bench.faults l.bench ≡ g.B.Bench.faults l.fn.bench;
  run : g.D.Disk.tells → g.B.Bench.tells → (o : Opening) → o.gives ≡ g.B.Bench.gives l.fn.bench → IsRun o (seen g.D.Disk.story g.W.Sink.written l.fn.state) → IsRun o (seen g.D.Disk.story g.W.Sink.written l.state) × Drove (g.B.Bench.gives l.fn.bench) l.fn.state.plan None l.fn.state.tale l.state.tale (g.B.Bench.place l.fn.bench).runs (g.B.Bench.place l.bench).runs;
  steady : g.D.Disk.tells → g.B.Bench.tells → (o : Opening) → o.gives ≡ g.B.Bench.gives l.fn.bench → IsRun o (seen g.D.Disk.story g.W.Sink.written l.fn.state) → IsSteady l.fn.state.fault → IsSteady l.state.fault;
}

abbrev pub decreases-loop-halt : goal.decreases-loop-halt
decreases-loop-halt g l = left_over l.state
