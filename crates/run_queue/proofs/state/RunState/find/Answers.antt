use Rattle.std.proofs.Common.{◌≡◌, sym, subst, Some}
use Rattle.std.specs.List.{slice_get}
use Rattle.meta_model.specs.declared.event.Avail.TheVariants as avails
use Rattle.meta_model.specs.declared.event.Event.TheVariants as events
use Rattle.run_queue.specs.Keeps.{IsRun, IsState, IsUpToDate}
use Rattle.run_queue.specs.Seen.{Known, RunView, seen}
use Rattle.run_queue.proofs.Agreement.{some_known}
use Rattle.run_queue.proofs.Found.{found_order, found_settles, may_found}
use Rattle.run_queue.proofs.Mends.{beside_unheld}
use Rattle.run_queue.proofs.Settled.{settled_view}
use Rattle.run_queue.proofs.state.RunState.find.Goals as goal

pub note_waiting-requires-clause-order : goal.note_waiting-requires-clause-order
note_waiting-requires-clause-order g c =
    let V : Type 0 = RunView g.row.D.Denot g.row.W.Denot in
    let v = c.args.self.now in
    let state = subst (λ (x : V). IsState (g.D.Disk.faults x.store.disk) x) c.self.view_is c.self.invariant.3 in
    let answer = c.requires.answer in
    let now = some_known (IsUpToDate v.plan v.store.rows) v.known answer.known answer.is_known state.current in
    found_order v.plan.tasks v.tale answer.known.need c.args.task c.args.number now.need.long answer.may.0.needed answer.may.0.waits c.requires.free

pub returns-in_err-note_waiting-clause-run : goal.returns-in_err-note_waiting-clause-run
returns-in_err-note_waiting-clause-run g c tells o run =
    let V : Type 0 = RunView g.row.D.Denot g.row.W.Denot in
    subst (λ (x : V). IsRun o (seen g.D.Disk.story g.W.Sink.written x)) (sym c.in_err-note_waiting.ensures.wanting) run

pub returns-clause-run : goal.returns-clause-run
returns-clause-run g c tells o run =
    let V : Type 0 = RunView g.row.D.Denot g.row.W.Denot in
    let v = c.args.self.now in
    let s = seen g.D.Disk.story g.W.Sink.written v in
    let state = subst (λ (x : V). IsState (g.D.Disk.faults x.store.disk) x) c.self.view_is c.self.invariant.3 in
    let answer = c.requires.answer in
    let now = some_known (IsUpToDate v.plan v.store.rows) v.known answer.known answer.is_known state.current in
    let work = some_known (λ (k : Known). slice_get k.avail c.args.task ≡ Some avails.Work) v.known answer.known answer.is_known c.requires.there in
    let sound = g.met.D.Disk.sound v.store.disk tells in
    let n = c.in_ok-note_waiting.ensures in
    settled_view g.D.Disk.story g.W.Sink.written o v c.note_waiting.new.self c.args.number (events.Found c.args.task) n.notes (n.moment tells) n.fault
    (found_settles o s run sound c.requires.faultless state.orderly answer.known answer.is_known now c.args.task c.args.number c.requires.free (answer.may.0, answer.may.1) work _)
    run (beside_unheld o s run (events.Found c.args.task) answer.may.2)
    (may_found o s run sound c.requires.faultless state.orderly answer.known answer.is_known now c.args.task c.args.number c.requires.free (answer.may.0, answer.may.1) work _)
    tt
