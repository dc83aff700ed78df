use Rattle.std.proofs.Common.{◌∙◌, ap, subst, sym, ℕ, None, Some}
use Rattle.std.specs.Prelude.{Option}
use Rattle.outside_traits.specs.Fault.{Counts}
use Rattle.turn_lock.specs.Seats.{view_of}
use Rattle.run_workers.specs.Ended.{HaltsIn, WasFaulty}
use Rattle.run_workers.specs.Runs.{by_bench}
use Rattle.run_workers.specs.Told.{logged_in}
use Rattle.run_workers.specs.Worked.{Worked}
use Rattle.run_workers.specs.declared.worker.Halt.{Halt}
use Rattle.run_workers.proofs.Ending.{ended_one}
use Rattle.run_workers.proofs.worker.work.Goals as goal

pub returns-in-Some-turn-clause-ended : goal.returns-in-Some-turn-clause-ended
returns-in-Some-turn-clause-ended g c =
    let faulty = WasFaulty g.D.Disk.faults g.W.Sink.faults g.K.Began.first g.K.Began.faults in
    let tale = logged_in (view_of c.turn.new.seat).seen in
    let before = subst (λ (n : ℕ). Worked g.D.Disk.tells g.B.Bench.tells g.K.Began.alike g.B.Bench.place g.B.Bench.gives g.B.Bench.faults g.K.Began.first g.K.Began.gives None n (view_of c.loop.seat).own c.args.bench c.loop.bench)
    (sym c.loop.invariant.same.number) c.loop.invariant.worked in
    let cause = (c.turn.ensures.worked c.args.bench before).cause in
    ended_one g.K.Began.first faulty g.B.Bench.faults c.in-Some-turn.halt c.wants_memory.result tale c.args.bench c.turn.new.bench c.wants_memory.ensures
    (subst (λ (h : Option Halt). HaltsIn g.K.Began.first faulty h tale) c.in-Some-turn.is c.turn.ensures.ends)
    (λ bench. (subst (Counts (g.B.Bench.faults c.args.bench) (g.B.Bench.faults c.turn.new.bench)) (ap by_bench c.in-Some-turn.is ∙ ap (λ h. by_bench (Some h)) bench) cause).rose)
