use Rattle.std.proofs.Common.{◌≡◌, sym, subst, refl, Option, None}
use Rattle.std.specs.Prelude.{IsSome}
use Rattle.std.specs.Option.{option_map}
use Rattle.meta_model.specs.declared.event.Cut.TheVariants as cuts
use Rattle.tale_model.specs.declared.fate.Fate.TheVariants.{Running}
use Rattle.tale_model.specs.Fates.{fate_at}
use Rattle.run_queue.specs.AskingLaws.{same_story}
use Rattle.run_queue.specs.declared.fault.RunFault.{RunFault}
use Rattle.run_queue.specs.Keeps.{IsRun}
use Rattle.run_queue.specs.Seen.{RunView, known_in, seen}
use Rattle.run_queue.specs.Turns.{fates_of}
use Rattle.run_queue.proofs.Passed.{passed_run}
use Rattle.run_queue.proofs.Turning.{broken_seen, spared_by}
use Rattle.run_queue.proofs.state.RunState.wanting.Goals as goal

pub returns-clause-run : goal.returns-clause-run
returns-clause-run g c tells o run =
    let V : Type 0 = RunView g.row.D.Denot g.row.W.Denot in
    let i = c.self.inside in
    let old : V = record { plan = i.plan; options = i.options; store = i.store; sink = i.sink; sink_failed = i.sink_failed; fault = i.fault; tale = i.tale.items; begun = i.begun.items; restoring = i.restoring.items; ends_wait = i.ends_wait; known = option_map known_in i.replan } in
    let mid : V = record old { fault = c.keep.new.kept } in
    let at = sym c.self.view_is in
    let none = subst (λ (v : V). v.fault ≡ None) at c.requires.faultless in
    let runs = subst (λ (v : V). fate_at (fates_of v) c.args.task ≡ Running c.args.number) at c.requires.runs in
    let some = subst (λ (f : Option RunFault). IsSome f) (sym (c.keep.ensures.first none)) refl in
    broken_seen g.D.Disk.story g.W.Sink.written o mid c.note.new.self c.args.task c.args.number cuts.Memory c.note.ensures.notes (c.note.ensures.moment tells) c.note.ensures.fault runs
    (spared_by (seen g.D.Disk.story g.W.Sink.written mid) c.args.number c.args.task cuts.Memory (λ e. cc) some)
    (passed_run o (seen g.D.Disk.story g.W.Sink.written old) (g.D.Disk.story i.store.disk) c.keep.new.kept (same_story (g.D.Disk.story i.store.disk)) (λ no. none) (subst (λ (v : V). IsRun o (seen g.D.Disk.story g.W.Sink.written v)) at run))
