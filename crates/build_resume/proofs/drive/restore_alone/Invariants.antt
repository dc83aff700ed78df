use Rattle.std.proofs.Common.{◌≡◌, IsSome}
use Rattle.run_model.specs.Opening.{Opening}
use Rattle.run_queue.specs.Seen.{seen}
use Rattle.run_queue.specs.Keeps.{IsRun, IsSteady, KeepsCount, KeepsFront, PrintsOn}
use Rattle.run_queue.specs.Turns.{SameRun}
use Rattle.build_resume.proofs.drive.restore_alone.Given as goal

abbrev pub invariant-loop : goal.invariant-loop
invariant-loop g l = record {
  same : SameRun l.fn.state l.state;
  tale : l.state.tale ≡ l.fn.state.tale;
  hands : l.state.restoring ≡ l.fn.state.restoring;
  fault : IsSome l.fn.state.fault → l.state.fault ≡ l.fn.state.fault;
  sink : KeepsCount g.W.Sink.faults l.fn.state l.state;
  text : g.W.Sink.tells → PrintsOn g.W.Sink.written l.fn.state l.state;
  stays : g.W.Sink.tells → KeepsFront g.W.Sink.written l.fn.state l.state;
  steady : IsSteady l.fn.state.fault → IsSteady l.state.fault;
  run : g.D.Disk.tells → (o : Opening) → IsRun o (seen g.D.Disk.story g.W.Sink.written l.fn.state) → IsRun o (seen g.D.Disk.story g.W.Sink.written l.state);
}
