use Rattle.std.proofs.Common.{◌∙◌, sym, subst, Ok}
use Rattle.meta_model.specs.declared.plan.Plan.{Plan}
use Rattle.run_model.specs.Report.{tale_text}
use Rattle.run_queue.specs.declared.closing.Ending.{Ending}
use Rattle.run_queue.specs.Keeps.{Prints}
use Rattle.run_queue.specs.Turns.{EndsTurn, GoesOn, IsGivenBy}
use Rattle.build_resume.proofs.Closings.{handed_has, hands_on}
use Rattle.build_resume.proofs.Halting.{clean_still}
use Rattle.build_resume.proofs.drive.close_alone.Goals as goal

pub loop-preserved-in-Ok-More : goal.loop-preserved-in-Ok-More
loop-preserved-in-Ok-More g c =
    let first = c.args.state.now in
    let old = c.loop.state in
    let new = c.ended_turn.new.self in
    let inv = c.loop.invariant in
    let e = c.ended_turn.ensures in
    let goes : GoesOn old new = subst (λ (x : Ending). EndsTurn 0 c.args.job.now.task c.loop.given old new (Ok x)) c.in-Ok-More.field-0-is c.in-Ok-More.ensures.ends in
    record {
      same = record { plan = e.same.plan ∙ inv.same.plan; options = e.same.options ∙ inv.same.options };
      tale = goes.tale ∙ inv.tale;
      given = hands_on c.args.job.now.task c.args.given.now c.loop.given c.ended_turn.new.given inv.given e.handed;
      sink = λ before counts. e.sink before (inv.sink before counts);
      text = λ heard base prints. subst (λ (p : Plan). Prints base (g.W.Sink.written new.sink) (tale_text p.tasks new.tale) new.sink_failed) inv.same.plan
          (e.text heard base (subst (λ (p : Plan). Prints base (g.W.Sink.written old.sink) (tale_text p.tasks old.tale) old.sink_failed) (sym inv.same.plan) (inv.text heard base prints)));
      stays = λ heard front is. e.stays heard front (inv.stays heard front is);
      gives = inv.gives;
      place = inv.place;
      faults = inv.faults;
      run = λ tells o run given job.
          e.run tells o (inv.run tells o run given job) (handed_has (IsGivenBy o.gives c.args.job.now) c.args.given.now c.loop.given inv.given given) (clean_still g.D.Disk.story g.W.Sink.written o first old c.args.job.now inv.same.plan job);
      steady = λ tells o run given job held.
          e.steady tells o (inv.run tells o run given job) (handed_has (IsGivenBy o.gives c.args.job.now) c.args.given.now c.loop.given inv.given given) (clean_still g.D.Disk.story g.W.Sink.written o first old c.args.job.now inv.same.plan job)
          (inv.steady tells o run given job held);
    }

pub loop-preserved : goal.loop-preserved
loop-preserved g c =
    let first = c.args.state.now in
    let old = c.loop.state in
    let new = c.ended_turn.new.self in
    let inv = c.loop.invariant in
    let e = c.ended_turn.ensures in
    let waits = c.wait_synced-synced.ensures in
    let goes : GoesOn old new = subst (λ (x : Ending). EndsTurn 0 c.args.job.now.task c.loop.given old new (Ok x)) c.in-Ok-Wait.field-0-is c.in-Ok-Wait.ensures.ends in
    record {
      same = record { plan = e.same.plan ∙ inv.same.plan; options = e.same.options ∙ inv.same.options };
      tale = goes.tale ∙ inv.tale;
      given = hands_on c.args.job.now.task c.args.given.now c.loop.given c.ended_turn.new.given inv.given e.handed;
      sink = λ before counts. e.sink before (inv.sink before counts);
      text = λ heard base prints. subst (λ (p : Plan). Prints base (g.W.Sink.written new.sink) (tale_text p.tasks new.tale) new.sink_failed) inv.same.plan
          (e.text heard base (subst (λ (p : Plan). Prints base (g.W.Sink.written old.sink) (tale_text p.tasks old.tale) old.sink_failed) (sym inv.same.plan) (inv.text heard base prints)));
      stays = λ heard front is. e.stays heard front (inv.stays heard front is);
      gives = waits.gives ∙ inv.gives;
      place = λ told. waits.place told ∙ inv.place told;
      faults = waits.faults ∙ inv.faults;
      run = λ tells o run given job.
          e.run tells o (inv.run tells o run given job) (handed_has (IsGivenBy o.gives c.args.job.now) c.args.given.now c.loop.given inv.given given) (clean_still g.D.Disk.story g.W.Sink.written o first old c.args.job.now inv.same.plan job);
      steady = λ tells o run given job held.
          e.steady tells o (inv.run tells o run given job) (handed_has (IsGivenBy o.gives c.args.job.now) c.args.given.now c.loop.given inv.given given) (clean_still g.D.Disk.story g.W.Sink.written o first old c.args.job.now inv.same.plan job)
          (inv.steady tells o run given job held);
    }

pub returns-in-Ok-Closed-clause-run : goal.returns-in-Ok-Closed-clause-run
returns-in-Ok-Closed-clause-run g c tells o run given job =
    let inv = c.loop.invariant in
    c.ended_turn.ensures.run tells o (inv.run tells o run given job) (handed_has (IsGivenBy o.gives c.args.job.now) c.args.given.now c.loop.given inv.given given)
    (clean_still g.D.Disk.story g.W.Sink.written o c.args.state.now c.loop.state c.args.job.now inv.same.plan job)

pub returns-in-Ok-Closed-clause-steady : goal.returns-in-Ok-Closed-clause-steady
returns-in-Ok-Closed-clause-steady g c tells o run given job held =
    let inv = c.loop.invariant in
    c.ended_turn.ensures.steady tells o (inv.run tells o run given job) (handed_has (IsGivenBy o.gives c.args.job.now) c.args.given.now c.loop.given inv.given given)
    (clean_still g.D.Disk.story g.W.Sink.written o c.args.state.now c.loop.state c.args.job.now inv.same.plan job) (inv.steady tells o run given job held)

pub returns-in-Err-clause-run : goal.returns-in-Err-clause-run
returns-in-Err-clause-run g c tells o run given job =
    let inv = c.loop.invariant in
    c.ended_turn.ensures.run tells o (inv.run tells o run given job) (handed_has (IsGivenBy o.gives c.args.job.now) c.args.given.now c.loop.given inv.given given)
    (clean_still g.D.Disk.story g.W.Sink.written o c.args.state.now c.loop.state c.args.job.now inv.same.plan job)

pub returns-in-Err-clause-steady : goal.returns-in-Err-clause-steady
returns-in-Err-clause-steady g c tells o run given job held =
    let inv = c.loop.invariant in
    c.ended_turn.ensures.steady tells o (inv.run tells o run given job) (handed_has (IsGivenBy o.gives c.args.job.now) c.args.given.now c.loop.given inv.given given)
    (clean_still g.D.Disk.story g.W.Sink.written o c.args.state.now c.loop.state c.args.job.now inv.same.plan job) (inv.steady tells o run given job held)
