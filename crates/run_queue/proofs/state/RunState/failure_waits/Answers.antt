use Rattle.std.proofs.Common.{sym, subst}
use Rattle.run_queue.specs.Keeps.{IsRun}
use Rattle.run_queue.specs.Seen.{RunView, seen}
use Rattle.run_queue.proofs.States.{waits_same, waits_state}
use Rattle.run_queue.proofs.state.RunState.failure_waits.Goals as goal

pub invariant_of-self : goal.invariant_of-self
invariant_of-self g c = (c.self.invariant.0, c.self.invariant.1, c.self.invariant.2, waits_state (g.D.Disk.faults c.self.inside.store.disk) _ _ c.self.invariant.3)

pub returns-clause-same : goal.returns-clause-same
returns-clause-same g c = waits_same _ _ _ c.self.view_is

pub returns-clause-run : goal.returns-clause-run
returns-clause-run g c tells o run =
    let V : Type 0 = RunView g.row.D.Denot g.row.W.Denot in
    subst (λ (v : V). IsRun o (seen g.D.Disk.story g.W.Sink.written v)) (sym c.self.view_is) run
