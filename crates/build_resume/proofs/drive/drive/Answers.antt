use Rattle.std.proofs.Common.{sym, subst, Some}
use Rattle.run_queue.specs.Seen.{RunView}
use Rattle.build_resume.specs.Drive.{Broken, Drove, Grows, IsHalted, RanSaid}
use Rattle.build_resume.proofs.Restoring.{halted_still, said_still}
use Rattle.build_resume.proofs.drive.drive.Goals as goal

pub returns-clause-grows : goal.returns-clause-grows
returns-clause-grows g c =
    let V : Type 0 = RunView g.row.D.Denot g.row.W.Denot in
    subst (λ (v : V). Grows (Some c.take_turns-halt.result) c.args.state.now.tale v.tale) (sym c.close_restorings.ensures.same) c.take_turns-halt.ensures.grows

pub returns-clause-broken : goal.returns-clause-broken
returns-clause-broken g c =
    let V : Type 0 = RunView g.row.D.Denot g.row.W.Denot in
    subst (λ (v : V). Broken (Unit {0}) c.args.state.now.tale v.tale) (sym c.close_restorings.ensures.same) c.take_turns-halt.ensures.broken

pub returns-clause-halted : goal.returns-clause-halted
returns-clause-halted g c =
    let V : Type 0 = RunView g.row.D.Denot g.row.W.Denot in
    subst (λ (v : V). IsHalted v c.take_turns-halt.result) (sym c.close_restorings.ensures.same)
    (halted_still c.take_turns-halt.new.state c.close_restorings.new.self.fault c.take_turns-halt.result c.close_restorings.ensures.fault c.take_turns-halt.ensures.halted)

pub returns-clause-printed : goal.returns-clause-printed
returns-clause-printed g c heard told from base before said =
    let V : Type 0 = RunView g.row.D.Denot g.row.W.Denot in
    let old = c.args.state.now in
    let mid = c.take_turns-halt.new.state in
    let new = c.close_restorings.new.self in
    let runs = (g.B.Bench.place c.take_turns-halt.new.bench).runs in
    subst (λ (v : V). RanSaid old.plan (Some c.take_turns-halt.result) new.fault from v.tale before runs base (g.W.Sink.written v.sink)) (sym c.close_restorings.ensures.same)
    (said_still old.plan c.take_turns-halt.result mid.fault new.fault from mid.tale before runs base (g.W.Sink.written mid.sink) (c.take_turns-halt.ensures.printed heard told from base before said))

pub returns-clause-run : goal.returns-clause-run
returns-clause-run g c tells told o gives run =
    let V : Type 0 = RunView g.row.D.Denot g.row.W.Denot in
    let old = c.args.state.now in
    let did = c.take_turns-halt.ensures.run tells told o gives run in (
      c.close_restorings.ensures.run tells o did.0,
      subst (λ (v : V). Drove (g.B.Bench.gives c.args.bench.now) old.plan (Some c.take_turns-halt.result) old.tale v.tale (g.B.Bench.place c.args.bench.now).runs (g.B.Bench.place c.take_turns-halt.new.bench).runs) (sym c.close_restorings.ensures.same) did.1,
    )

pub returns-clause-steady : goal.returns-clause-steady
returns-clause-steady g c tells told o gives run held = c.close_restorings.ensures.steady (c.take_turns-halt.ensures.steady tells told o gives run held)
