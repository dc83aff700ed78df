use Rattle.std.proofs.Common.{◌∙◌, sym, subst, refl, IsSome, None, Some}
use Rattle.std.proofs.lemmas.Bool.{false≢true}
use Rattle.run_model.specs.Report.{tale_text}
use Rattle.meta_model.specs.declared.plan.Plan.{Plan}
use Rattle.run_queue.specs.Keeps.{Prints}
use Rattle.build_resume.specs.Drive.{RanSaid}
use Rattle.build_resume.proofs.Driving.{broken_all, broken_going, broken_none, broken_on, drove_first, drove_on, drove_same, grows_none, grows_on}
use Rattle.build_resume.proofs.drive.take_turns.Goals as goal

pub loop-halt-init : goal.loop-halt-init
loop-halt-init g c = record {
  none = c.requires.none;
  same = record { plan = refl; options = refl };
  grows = grows_none None c.args.state.now.tale c.args.state.now.tale refl;
  broken = broken_none _ c.args.state.now.tale c.args.state.now.tale refl;
  sink = λ before counts. counts;
  text = λ heard base prints. prints;
  printed = λ heard told from base before said. said;
  gives = refl;
  faults = refl;
  run = λ tells told o gives run. (run, drove_first (g.B.Bench.gives c.args.bench.now) c.args.state.now.plan c.args.state.now.tale (g.B.Bench.place c.args.bench.now).runs);
  steady = λ tells told o gives run held. held;
}

pub returns-in-Some-clause-run : goal.returns-in-Some-clause-run
returns-in-Some-clause-run g c tells told o gives run =
    let before = c.loop-halt.invariant.run tells told o gives run in
    let did = c.in-Some.ensures.run tells told o (gives ∙ sym c.loop-halt.invariant.gives) before.0 in (
      did.0,
      drove_on (g.B.Bench.gives c.args.bench.now) c.args.state.now.plan (Some c.in-Some.halt) c.args.state.now.tale c.loop-halt.state.tale c.turn.new.state.tale (g.B.Bench.place c.args.bench.now).runs (g.B.Bench.place c.loop-halt.bench).runs (g.B.Bench.place c.turn.new.bench).runs before.1
          (drove_same (Some c.in-Some.halt) c.loop-halt.state.tale c.turn.new.state.tale (g.B.Bench.place c.loop-halt.bench).runs (g.B.Bench.place c.turn.new.bench).runs c.loop-halt.invariant.gives c.loop-halt.invariant.same.plan did.1),
    )

pub loop-halt-preserved : goal.loop-halt-preserved
loop-halt-preserved g c = record {
  none = c.in_default.ensures.none;
  same = record { plan = c.in_default.ensures.same.plan ∙ c.loop-halt.invariant.same.plan; options = c.in_default.ensures.same.options ∙ c.loop-halt.invariant.same.options };
  grows = grows_on None c.args.state.now.tale c.loop-halt.state.tale c.turn.new.state.tale c.loop-halt.invariant.grows c.in_default.ensures.grows;
  broken = broken_on c.loop-halt.state.fault (IsSome c.turn.new.state.fault) c.args.state.now.tale c.loop-halt.state.tale c.turn.new.state.tale c.loop-halt.invariant.broken (broken_going c.turn.new.state.fault c.loop-halt.state.tale c.turn.new.state.tale c.in_default.ensures.broken) (λ f. absurd (false≢true (c.in_default.ensures.rests f).1)) (λ f. (c.in_default.ensures.rests f).0);
  sink = λ before counts. c.in_default.ensures.sink before (c.loop-halt.invariant.sink before counts);
  text = λ heard base prints. subst (λ (p : Plan). Prints base (g.W.Sink.written c.turn.new.state.sink) (tale_text p.tasks c.turn.new.state.tale) c.turn.new.state.sink_failed) c.loop-halt.invariant.same.plan
      (c.in_default.ensures.text heard base (subst (λ (p : Plan). Prints base (g.W.Sink.written c.loop-halt.state.sink) (tale_text p.tasks c.loop-halt.state.tale) c.loop-halt.state.sink_failed) (sym c.loop-halt.invariant.same.plan) (c.loop-halt.invariant.text heard base prints)));
  printed = λ heard told from base before said. subst (λ (p : Plan). RanSaid p None c.turn.new.state.fault from c.turn.new.state.tale before (g.B.Bench.place c.turn.new.bench).runs base (g.W.Sink.written c.turn.new.state.sink)) c.loop-halt.invariant.same.plan
      (c.in_default.ensures.printed heard told from base before (subst (λ (p : Plan). RanSaid p None c.loop-halt.state.fault from c.loop-halt.state.tale before (g.B.Bench.place c.loop-halt.bench).runs base (g.W.Sink.written c.loop-halt.state.sink)) (sym c.loop-halt.invariant.same.plan) (c.loop-halt.invariant.printed heard told from base before said)));
  gives = c.in_default.ensures.gives ∙ c.loop-halt.invariant.gives;
  faults = c.in_default.ensures.cause.stayed ∙ c.loop-halt.invariant.faults;
  run = λ tells told o gives run.
      let before = c.loop-halt.invariant.run tells told o gives run in
      let did = c.in_default.ensures.run tells told o (gives ∙ sym c.loop-halt.invariant.gives) before.0 in (
        did.0,
        drove_on (g.B.Bench.gives c.args.bench.now) c.args.state.now.plan None c.args.state.now.tale c.loop-halt.state.tale c.turn.new.state.tale (g.B.Bench.place c.args.bench.now).runs (g.B.Bench.place c.loop-halt.bench).runs (g.B.Bench.place c.turn.new.bench).runs before.1
            (drove_same None c.loop-halt.state.tale c.turn.new.state.tale (g.B.Bench.place c.loop-halt.bench).runs (g.B.Bench.place c.turn.new.bench).runs c.loop-halt.invariant.gives c.loop-halt.invariant.same.plan did.1),
      );
  steady = λ tells told o gives run held. c.in_default.ensures.steady tells told o (gives ∙ sym c.loop-halt.invariant.gives) (c.loop-halt.invariant.run tells told o gives run).0 (c.loop-halt.invariant.steady tells told o gives run held);
}

pub returns-in-Some-clause-printed : goal.returns-in-Some-clause-printed
returns-in-Some-clause-printed g c heard told from base before said =
    subst (λ (p : Plan). RanSaid p (Some c.in-Some.halt) c.turn.new.state.fault from c.turn.new.state.tale before (g.B.Bench.place c.turn.new.bench).runs base (g.W.Sink.written c.turn.new.state.sink)) c.loop-halt.invariant.same.plan
    (c.in-Some.ensures.printed heard told from base before (subst (λ (p : Plan). RanSaid p None c.loop-halt.state.fault from c.loop-halt.state.tale before (g.B.Bench.place c.loop-halt.bench).runs base (g.W.Sink.written c.loop-halt.state.sink)) (sym c.loop-halt.invariant.same.plan) (c.loop-halt.invariant.printed heard told from base before said)))

pub returns-in-Some-clause-steady : goal.returns-in-Some-clause-steady
returns-in-Some-clause-steady g c tells told o gives run held =
    c.in-Some.ensures.steady tells told o (gives ∙ sym c.loop-halt.invariant.gives) (c.loop-halt.invariant.run tells told o gives run).0 (c.loop-halt.invariant.steady tells told o gives run held)

pub returns-in-Some-clause-grows : goal.returns-in-Some-clause-grows
returns-in-Some-clause-grows g c = grows_on (Some c.in-Some.halt) c.args.state.now.tale c.loop-halt.state.tale c.turn.new.state.tale c.loop-halt.invariant.grows c.in-Some.ensures.grows

pub returns-in-Some-clause-broken : goal.returns-in-Some-clause-broken
returns-in-Some-clause-broken g c =
    broken_on c.loop-halt.state.fault (Unit {0}) c.args.state.now.tale c.loop-halt.state.tale c.turn.new.state.tale c.loop-halt.invariant.broken (broken_all _ c.loop-halt.state.tale c.turn.new.state.tale c.in-Some.ensures.broken) (λ f. tt) (λ f. (c.in-Some.ensures.rests f).0)
