use Rattle.std.proofs.Common.{◌≡◌, ◌∙◌, sym, ap, subst, List, Some, None, Option}
use Rattle.std.specs.Option.{option_map}
use Rattle.meta_model.specs.declared.event.Avail.{Avail}
use Rattle.store_model.specs.declared.signature.EquivRow.{EquivRow}
use Rattle.setscene_plan.specs.Replans.{IsCurrent}
use Rattle.setscene_plan.proofs.Meanings.{current_follows}
use Rattle.run_queue.specs.Asking.{meant}
use Rattle.run_queue.specs.Keeps.{IsRun, IsUpToDate}
use Rattle.run_queue.specs.Seen.{RunView, known_in, no_meaning, seen}
use Rattle.run_queue.proofs.Answered.{known_run, known_there}
use Rattle.run_queue.proofs.Known.{sound_ordered, state_known, up_to_date}
use Rattle.run_queue.proofs.Passed.{passed_view}
use Rattle.run_queue.proofs.Trying.{known_remembers}
use Rattle.run_queue.proofs.state.RunState.look.Goals as goal

pub known_of-requires-clause-ordered : goal.known_of-requires-clause-ordered
known_of-requires-clause-ordered g c = sound_ordered c.self.inside.plan c.self.invariant.3.sound

pub invariant_of-self : goal.invariant_of-self
invariant_of-self g c =
    let plan = c.self.inside.plan in
    let old = c.self.inside.store in
    let new = c.known_of.new.store in
    let says = meant g.D.Disk.tells (g.D.Disk.story old.disk).held old.rows c.self.inside.options.setscene plan.tasks c.as_slice.result.now in
    let current = current_follows says no_meaning (record { plan = plan; rows = old.rows }) c.in-Ok.replan (λ t sig there said. tt) c.in-Ok.ensures.current in
    let faultless : c.self.inside.fault ≡ None = ap (λ v. v.fault) c.self.view_is ∙ c.requires.faultless in
    let rows : new.rows ≡ old.rows = c.in-Ok.ensures.same.rows in (
      c.self.invariant.0,
      c.self.invariant.1,
      subst (λ (r : List EquivRow). IsCurrent no_meaning (record { plan = plan; rows = r }) c.in-Ok.replan) (sym rows) current,
      state_known (g.D.Disk.faults old.disk) (g.D.Disk.faults new.disk) _ new (known_in c.in-Ok.replan) c.self.invariant.3 faultless c.in-Ok.ensures.fine c.in-Ok.ensures.same.faultless
          (subst (λ (r : List EquivRow). IsUpToDate plan r (known_in c.in-Ok.replan)) (sym rows) (up_to_date no_meaning (record { plan = plan; rows = old.rows }) c.in-Ok.replan (sound_ordered plan c.self.invariant.3.sound) current)),
    )

pub returns-in-Ok-clause-run : goal.returns-in-Ok-clause-run
returns-in-Ok-clause-run g c tells o run =
    let V : Type 0 = RunView g.row.D.Denot g.row.W.Denot in
    let i = c.self.inside in
    let was : V = record { plan = i.plan; options = i.options; store = i.store; sink = i.sink; sink_failed = i.sink_failed; fault = i.fault; tale = i.tale.items; begun = i.begun.items; restoring = i.restoring.items; ends_wait = i.ends_wait; known = option_map known_in i.replan } in
    let run' = subst (λ (v : V). IsRun o (seen g.D.Disk.story g.W.Sink.written v)) (sym c.self.view_is) run in
    let faultless : c.self.inside.fault ≡ None = ap (λ v. v.fault) c.self.view_is ∙ c.requires.faultless in
    let sound = g.met.D.Disk.sound c.self.inside.store.disk tells in
    let old = c.self.inside.store in
    let current = subst (λ (b : List (Option Avail)). IsCurrent (meant g.D.Disk.tells (g.D.Disk.story old.disk).held old.rows c.self.inside.options.setscene c.self.inside.plan.tasks b) (record { plan = c.self.inside.plan; rows = old.rows }) c.in-Ok.replan) c.as_slice.ensures.value c.in-Ok.ensures.current in
    let there = known_there o _ run' sound g.D.Disk.tells tells faultless c.in-Ok.replan current in
    passed_view g.D.Disk.story g.W.Sink.written o (record was { known = Some (known_in c.in-Ok.replan) }) c.known_of.new.store c.self.inside.fault c.in-Ok.ensures.same (c.in-Ok.ensures.images tells) (λ e. e) (known_run o _ (known_in c.in-Ok.replan) run' there)

pub returns-in-Ok-clause-remembers : goal.returns-in-Ok-clause-remembers
returns-in-Ok-clause-remembers g c unknown =
    let old = c.self.inside.store in
    let plan = c.self.inside.plan in
    let current = subst (λ (b : List (Option Avail)). IsCurrent (meant g.D.Disk.tells (g.D.Disk.story old.disk).held old.rows c.self.inside.options.setscene plan.tasks b) (record { plan = plan; rows = old.rows }) c.in-Ok.replan) c.as_slice.ensures.value c.in-Ok.ensures.current in
    known_remembers g.D.Disk.tells (g.D.Disk.story old.disk).held old.rows c.self.inside.options.setscene plan c.self.inside.begun.items c.in-Ok.replan (sound_ordered plan c.self.invariant.3.sound) current

pub returns-in-Err-Memory-clause-run : goal.returns-in-Err-Memory-clause-run
returns-in-Err-Memory-clause-run g c tells o run =
    let V : Type 0 = RunView g.row.D.Denot g.row.W.Denot in
    let i = c.self.inside in
    let was : V = record { plan = i.plan; options = i.options; store = i.store; sink = i.sink; sink_failed = i.sink_failed; fault = i.fault; tale = i.tale.items; begun = i.begun.items; restoring = i.restoring.items; ends_wait = i.ends_wait; known = option_map known_in i.replan } in
    let run' = subst (λ (v : V). IsRun o (seen g.D.Disk.story g.W.Sink.written v)) (sym c.self.view_is) run in
    passed_view g.D.Disk.story g.W.Sink.written o was c.known_of.new.store c.self.inside.fault c.in-Err-Memory.ensures.same (c.in-Err-Memory.ensures.images tells) (λ e. e) run'

pub returns-in-Err-clause-run : goal.returns-in-Err-clause-run
returns-in-Err-clause-run g c tells o run =
    let V : Type 0 = RunView g.row.D.Denot g.row.W.Denot in
    let i = c.self.inside in
    let was : V = record { plan = i.plan; options = i.options; store = i.store; sink = i.sink; sink_failed = i.sink_failed; fault = i.fault; tale = i.tale.items; begun = i.begun.items; restoring = i.restoring.items; ends_wait = i.ends_wait; known = option_map known_in i.replan } in
    let run' = subst (λ (v : V). IsRun o (seen g.D.Disk.story g.W.Sink.written v)) (sym c.self.view_is) run in
    let faultless : c.self.inside.fault ≡ None = ap (λ v. v.fault) c.self.view_is ∙ c.requires.faultless in
    passed_view g.D.Disk.story g.W.Sink.written o was c.known_of.new.store c.keep.new.kept c.in-Err.ensures.same (c.in-Err.ensures.images tells) (λ e. faultless) run'
