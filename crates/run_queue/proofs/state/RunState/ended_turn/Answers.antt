use Rattle.std.proofs.Common.{◌≡◌, ◌∙◌, sym, ap, subst, refl, Option, Some}
use Rattle.std.specs.Prelude.{IfSome, IsSome}
use Rattle.meta_model.specs.declared.event.Cut.TheVariants as cuts
use Rattle.plan_model.specs.Sound.{IsSound}
use Rattle.task_worker.specs.declared.given.Given.{Given}
use Rattle.task_worker.specs.declared.given.Given.TheVariants as given
use Rattle.task_worker.specs.Jobs.{IsGiven}
use Rattle.run_queue.specs.Seen.{RunView, seen}
use Rattle.run_queue.specs.Turns.{IsGivenBy}
use Rattle.run_queue.proofs.OwnSignature.{within_short}
use Rattle.run_queue.proofs.Turning.{broken_seen, output_of, spared_by}
use Rattle.run_queue.proofs.state.RunState.ended_turn.Goals as goal

pub returns-then-is_some-clause-run : goal.returns-then-is_some-clause-run
returns-then-is_some-clause-run g c tells o run is_given job =
    let v = c.args.self.now in
    let V : Type 0 = RunView g.row.D.Denot g.row.W.Denot in
    let some = subst (λ (v : V). IsSome v.fault) c.self.view_is (sym c.is_some.ensures ∙ c.if-is_some.true) in
    broken_seen g.D.Disk.story g.W.Sink.written o v c.note.new.self c.args.job.now.task c.args.number cuts.Fault c.note.ensures.notes (c.note.ensures.moment tells) c.note.ensures.fault c.requires.runs
    (spared_by (seen g.D.Disk.story g.W.Sink.written v) c.args.number c.args.job.now.task cuts.Fault (λ e. cc) some) run

pub tree_turn-requires-clause-short : goal.tree_turn-requires-clause-short
tree_turn-requires-clause-short g c =
    let here : c.args.given.now ≡ Some (given.Tree c.in-Some-Tree.tree c.in-Some-Tree.manifest) = sym c.take.ensures.value ∙ c.in-Some-Tree.is ∙ ap (λ (x : Given). Some x) c.in-Some-Tree.field-0-is in
    within_short c.in-Some-Tree.tree (subst (λ (x : Option Given). IfSome x IsGiven) here c.requires.given).1

pub returns-in-Some-Tree-clause-run : goal.returns-in-Some-Tree-clause-run
returns-in-Some-Tree-clause-run g c tells o run is_given job =
    let V : Type 0 = RunView g.row.D.Denot g.row.W.Denot in
    let here : c.args.given.now ≡ Some (given.Tree c.in-Some-Tree.tree c.in-Some-Tree.manifest) = sym c.take.ensures.value ∙ c.in-Some-Tree.is ∙ ap (λ (x : Given). Some x) c.in-Some-Tree.field-0-is in
    let sound = subst (λ (v : V). IsSound v.plan) c.self.view_is c.self.invariant.3.sound in
    let tree = subst (λ (x : Option Given). IfSome x (IsGivenBy o.gives c.args.job.now)) here is_given in
    c.tree_turn.ensures.run tells o run (output_of g.D.Disk.story g.W.Sink.written o c.args.self.now c.args.job.now c.in-Some-Tree.tree c.in-Some-Tree.manifest sound job tree)

pub returns-in-Some-Tree-clause-steady : goal.returns-in-Some-Tree-clause-steady
returns-in-Some-Tree-clause-steady g c tells o run is_given job held =
    let V : Type 0 = RunView g.row.D.Denot g.row.W.Denot in
    let here : c.args.given.now ≡ Some (given.Tree c.in-Some-Tree.tree c.in-Some-Tree.manifest) = sym c.take.ensures.value ∙ c.in-Some-Tree.is ∙ ap (λ (x : Given). Some x) c.in-Some-Tree.field-0-is in
    let sound = subst (λ (v : V). IsSound v.plan) c.self.view_is c.self.invariant.3.sound in
    let tree = subst (λ (x : Option Given). IfSome x (IsGivenBy o.gives c.args.job.now)) here is_given in
    c.tree_turn.ensures.steady tells o run (output_of g.D.Disk.story g.W.Sink.written o c.args.self.now c.args.job.now c.in-Some-Tree.tree c.in-Some-Tree.manifest sound job tree)

pub returns-in-Some-Fails-clause-run : goal.returns-in-Some-Fails-clause-run
returns-in-Some-Fails-clause-run g c tells o run is_given job =
    let here : c.args.given.now ≡ Some (given.Fails c.in-Some-Fails.status) = sym c.take.ensures.value ∙ c.in-Some-Fails.is ∙ ap (λ (x : Given). Some x) c.in-Some-Fails.field-0-is in
    c.failed.ensures.run tells o run (given.Fails c.in-Some-Fails.status) (record { outcome = refl; closed = refl }) (subst (λ (x : Option Given). IfSome x (IsGivenBy o.gives c.args.job.now)) here is_given) job

pub returns-in-Some-TooLarge-clause-run : goal.returns-in-Some-TooLarge-clause-run
returns-in-Some-TooLarge-clause-run g c tells o run is_given job =
    let here : c.args.given.now ≡ Some given.TooLarge = sym c.take.ensures.value ∙ c.in-Some-TooLarge.is ∙ ap (λ (x : Given). Some x) c.in-Some-TooLarge.field-0-is in
    c.failed-in-Some-TooLarge.ensures.run tells o run given.TooLarge (record { outcome = refl; closed = refl }) (subst (λ (x : Option Given). IfSome x (IsGivenBy o.gives c.args.job.now)) here is_given) job
