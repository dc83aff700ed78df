use Rattle.std.proofs.Common.{ap, arith, length, subst, take}
use Rattle.meta_model.specs.declared.plan.Plan.{Plan}
use Rattle.run_queue.specs.Seen.{seen}
use Rattle.run_workers.specs.Ended.{AllEnded, WasFaulty}
use Rattle.build_resume.specs.Benches.{HasSeats}
use Rattle.build_resume.proofs.Working.{calm_first, none_first}
use Rattle.build_resume.proofs.workers.with_workers.Goals as goal

pub with_at_most-requires-clause-few : goal.with_at_most-requires-clause-few
with_at_most-requires-clause-few g c =
    let most = c.kept.ensures.sound.threads.1 in
    let same = ap (λ (p : Plan). p.threads) c.plan.ensures in
    omega (arith, most, same)

pub returns-clause-seats : goal.returns-clause-seats
returns-clause-seats g c = none_first (length c.args.benches.items) c.with_at_most.result.0.tale c.with_at_most.ensures.seats

pub returns-clause-calm : goal.returns-clause-calm
returns-clause-calm g c b = calm_first (length c.args.benches.items) c.with_at_most.result.0.tale c.with_at_most.ensures.seats b

pub returns-clause-threads : goal.returns-clause-threads
returns-clause-threads g c = subst (λ (p : Plan). HasSeats p.threads c.with_at_most.result.0.tale) c.plan.ensures c.with_at_most.ensures.threads

pub returns-clause-ended : goal.returns-clause-ended
returns-clause-ended g c =
    let first = seen g.D.Disk.story g.W.Sink.written c.args.state in
    let faulty = WasFaulty g.D.Disk.faults g.W.Sink.faults first (g.W.Sink.faults c.args.state.sink) in
    let now = c.with_at_most in
    subst (λ (p : Plan). AllEnded first faulty g.B.Bench.faults now.result.2 now.result.0.tale (take p.threads c.args.benches.items) (take p.threads now.result.1.items)) c.plan.ensures now.ensures.ended
