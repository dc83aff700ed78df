use Rattle.std.proofs.Common.{◌≡◌, None}
use Rattle.run_model.specs.Opening.{Opening}
use Rattle.run_queue.specs.Keeps.{IsRun}
use Rattle.run_queue.specs.Seen.{seen}
use Rattle.run_queue.specs.Turns.{tries_left}
use Rattle.run_queue.proofs.Tried.{SameTold}
use Rattle.run_queue.proofs.state.RunState.claim.Given as goal

abbrev pub invariant-loop-claim : goal.invariant-loop-claim
invariant-loop-claim g l = record {
  same : SameTold l.fn.self l.self;
  began : l.fn.self.fault ≡ None;
  faultless : l.self.fault ≡ None;
  run : g.D.Disk.tells → (o : Opening) → IsRun o (seen g.D.Disk.story g.W.Sink.written l.fn.self) → IsRun o (seen g.D.Disk.story g.W.Sink.written l.self);
}

abbrev pub decreases-loop-claim : goal.decreases-loop-claim
decreases-loop-claim g l = tries_left l.self
