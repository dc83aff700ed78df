use Rattle.std.proofs.Common.{◌≡◌, ◌∙◌, sym, ap, subst, ℕ, List, length, inl, inr}
use Rattle.std.specs.Prelude.{Contains, IsSome}
use Rattle.meta_model.specs.declared.event.Event.TheVariants as events
use Rattle.meta_model.specs.declared.event.Logged.{Logged}
use Rattle.meta_model.specs.declared.plan.Plan.{Plan}
use Rattle.tale_model.specs.Fates.{NoneRuns, fates_told}
use Rattle.run_model.specs.Report.{tale_text}
use Rattle.run_queue.specs.declared.restoring.Mending.{Mending}
use Rattle.run_queue.specs.Keeps.{Prints}
use Rattle.run_queue.specs.Turns.{GoesOn, Marks, MendsTo}
use Rattle.build_resume.proofs.Restoring.{free_seat, kept_still, mended, never_goes}
use Rattle.build_resume.proofs.drive.restore_alone.Goals as goal

pub restore_turn-requires-clause-free : goal.restore_turn-requires-clause-free
restore_turn-requires-clause-free g c =
    let first = c.args.state.now in
    let old = c.loop.state in
    let inv = c.loop.invariant in
    free_seat (fates_told (length old.plan.tasks) old.tale) 0
    (subst (λ (l : List Logged). NoneRuns (fates_told (length old.plan.tasks) l)) (sym inv.tale) (subst (λ (p : Plan). NoneRuns (fates_told (length p.tasks) first.tale)) (sym inv.same.plan) c.requires.none))

pub loop-preserved : goal.loop-preserved
loop-preserved g c =
    let old = c.loop.state in
    let new = c.restore_turn.new.self in
    let inv = c.loop.invariant in
    let e = c.restore_turn.ensures in
    let goes : GoesOn old new × (new.restoring ≡ old.restoring) = elim c.in-More.is [
      | inl more ↦ subst (λ (x : Mending). MendsTo 0 c.args.task old new x) more e.mends
      | inr waits ↦ subst (λ (x : Mending). MendsTo 0 c.args.task old new x) waits e.mends
    ] in
    record {
      same = record { plan = e.same.plan ∙ inv.same.plan; options = e.same.options ∙ inv.same.options };
      tale = goes.0.tale ∙ inv.tale;
      hands = goes.1 ∙ inv.hands;
      fault = λ some. absurd (never_goes c.args.state.now old new inv.fault goes.0 some);
      sink = λ before counts. e.sink before (inv.sink before counts);
      text = λ heard base prints. subst (λ (p : Plan). Prints base (g.W.Sink.written new.sink) (tale_text p.tasks new.tale) new.sink_failed) inv.same.plan
          (e.text heard base (subst (λ (p : Plan). Prints base (g.W.Sink.written old.sink) (tale_text p.tasks old.tale) old.sink_failed) (sym inv.same.plan) (inv.text heard base prints)));
      stays = λ heard front is. e.stays heard front (inv.stays heard front is);
      steady = λ held. e.steady (inv.steady held);
      run = λ tells o run. e.run tells o (inv.run tells o run);
    }

pub returns-in-Closed-clause-claims : goal.returns-in-Closed-clause-claims
returns-in-Closed-clause-claims g c =
    let first = c.args.state.now in
    let old = c.loop.state in
    let new = c.restore_turn.new.self in
    let hand = subst (λ (l : List ℕ). Contains l c.args.task) (sym c.loop.invariant.hands) c.requires.hand in
    let marks = mended 0 c.args.task old new hand c.in-Closed.ensures.mends in
    inr (inl (subst (λ (l : List Logged). Marks 0 (events.Restored c.args.task) l new.tale) c.loop.invariant.tale marks))

pub returns-in-Closed-clause-fault : goal.returns-in-Closed-clause-fault
returns-in-Closed-clause-fault g c some = (c.restore_turn.ensures.rests (kept_still c.args.state.now c.loop.state c.loop.invariant.fault some)).1 ∙ c.loop.invariant.fault some

pub returns-in-Stopped-clause-fault : goal.returns-in-Stopped-clause-fault
returns-in-Stopped-clause-fault g c some = (c.restore_turn.ensures.rests (kept_still c.args.state.now c.loop.state c.loop.invariant.fault some)).1 ∙ c.loop.invariant.fault some

pub returns-in-Closed-clause-text : goal.returns-in-Closed-clause-text
returns-in-Closed-clause-text g c heard base prints =
    let old = c.loop.state in
    let new = c.restore_turn.new.self in
    let inv = c.loop.invariant in
    subst (λ (p : Plan). Prints base (g.W.Sink.written new.sink) (tale_text p.tasks new.tale) new.sink_failed) inv.same.plan
    (c.restore_turn.ensures.text heard base (subst (λ (p : Plan). Prints base (g.W.Sink.written old.sink) (tale_text p.tasks old.tale) old.sink_failed) (sym inv.same.plan) (inv.text heard base prints)))

pub returns-in-Stopped-clause-text : goal.returns-in-Stopped-clause-text
returns-in-Stopped-clause-text g c heard base prints =
    let old = c.loop.state in
    let new = c.restore_turn.new.self in
    let inv = c.loop.invariant in
    subst (λ (p : Plan). Prints base (g.W.Sink.written new.sink) (tale_text p.tasks new.tale) new.sink_failed) inv.same.plan
    (c.restore_turn.ensures.text heard base (subst (λ (p : Plan). Prints base (g.W.Sink.written old.sink) (tale_text p.tasks old.tale) old.sink_failed) (sym inv.same.plan) (inv.text heard base prints)))

pub returns-in-Closed-clause-run : goal.returns-in-Closed-clause-run
returns-in-Closed-clause-run g c tells o run = c.restore_turn.ensures.run tells o (c.loop.invariant.run tells o run)

pub returns-in-Stopped-clause-run : goal.returns-in-Stopped-clause-run
returns-in-Stopped-clause-run g c tells o run = c.restore_turn.ensures.run tells o (c.loop.invariant.run tells o run)
