use Rattle.std.proofs.Common.{◌++◌, ◌∙◌, ap, subst, refl, inr}
use Rattle.turn_lock.specs.Seats.{view_of}
use Rattle.run_queue.specs.declared.restoring.Mending.TheVariants as mending
use Rattle.run_workers.specs.declared.worker.Halt.TheVariants as halts
use Rattle.run_workers.specs.Ended.{WasFaulty}
use Rattle.run_workers.specs.Seats.{MendAdds}
use Rattle.run_workers.specs.Told.{logged_in}
use Rattle.run_workers.proofs.Ending.{halts_now}
use Rattle.run_workers.proofs.worker.restore.Goals as goal

pub returns-in-Closed-clause-adds : goal.returns-in-Closed-clause-adds
returns-in-Closed-clause-adds g c =
    let mends = c.in-Closed.ensures.mends in
    (mending.Closed, mends.0, subst (λ n. MendAdds n c.args.task mending.Closed mends.0) c.loop.invariant.same.number mends.1, mends.2.mine ∙ ap (λ l. l ++ mends.0) c.loop.invariant.own)

pub returns-in-Stopped-clause-adds : goal.returns-in-Stopped-clause-adds
returns-in-Stopped-clause-adds g c =
    let mends = c.in-Stopped.ensures.mends in
    (mending.Stopped, mends.0, subst (λ n. MendAdds n c.args.task mending.Stopped mends.0) c.loop.invariant.same.number mends.1, mends.2.mine ∙ ap (λ l. l ++ mends.0) c.loop.invariant.own)

pub returns-in-Stopped-clause-ends : goal.returns-in-Stopped-clause-ends
returns-in-Stopped-clause-ends g c =
    let faulty = WasFaulty g.D.Disk.faults g.W.Sink.faults g.K.Began.first g.K.Began.faults in
    halts_now g.K.Began.first faulty halts.Stopped (logged_in (view_of c.restore_turn.new.seat).seen) (inr (c.in-Stopped.ensures.stops refl))
