use Rattle.std.proofs.Common.{◌≡◌}
use Rattle.std.specs.Prelude.{IfSome}
use Rattle.run_model.specs.Opening.{Opening}
use Rattle.run_queue.specs.Seen.{seen}
use Rattle.run_queue.specs.Keeps.{IsRun, IsSteady, KeepsCount, KeepsFront, PrintsOn}
use Rattle.run_queue.specs.Turns.{IsCleanJob, IsGivenBy, SameRun}
use Rattle.build_resume.proofs.Closings.{IsHanded}
use Rattle.build_resume.proofs.drive.close_alone.Given as goal

abbrev pub invariant-loop : goal.invariant-loop
invariant-loop g l = record {
  same : SameRun l.fn.state l.state;
  tale : l.state.tale ≡ l.fn.state.tale;
  given : IsHanded l.fn.given l.given;
  sink : KeepsCount g.W.Sink.faults l.fn.state l.state;
  text : g.W.Sink.tells → PrintsOn g.W.Sink.written l.fn.state l.state;
  stays : g.W.Sink.tells → KeepsFront g.W.Sink.written l.fn.state l.state;
  gives : g.B.Bench.gives l.bench ≡ g.B.Bench.gives l.fn.bench;
  place : g.B.Bench.tells → g.B.Bench.place l.bench ≡ g.B.Bench.place l.fn.bench;
  faults : g.B.Bench.faults l.bench ≡ g.B.Bench.faults l.fn.bench;
  run : g.D.Disk.tells → (o : Opening) → IsRun o (seen g.D.Disk.story g.W.Sink.written l.fn.state) → IfSome l.fn.given (IsGivenBy o.gives l.fn.job)
      → IsCleanJob o (seen g.D.Disk.story g.W.Sink.written l.fn.state) l.fn.job → IsRun o (seen g.D.Disk.story g.W.Sink.written l.state);
  steady : g.D.Disk.tells → (o : Opening) → IsRun o (seen g.D.Disk.story g.W.Sink.written l.fn.state) → IfSome l.fn.given (IsGivenBy o.gives l.fn.job)
      → IsCleanJob o (seen g.D.Disk.story g.W.Sink.written l.fn.state) l.fn.job → IsSteady l.fn.state.fault → IsSteady l.state.fault;
}
