use Rattle.std.proofs.Common.{◌≡◌, ◌∙◌, sym, ap, subst, refl, rules, ℕ, ◌<◌, ◌≤◌, List, length, None, inl, arith}
use Rattle.std.specs.Prelude.{Contains, IfSome, IsSome, Option}
use Rattle.std.specs.Option.{option_map}
use Rattle.std.proofs.lemmas.Fn.{filter_same}
use Rattle.meta_model.specs.declared.event.Event.TheVariants as events
use Rattle.tale_model.specs.Fates.{IsFree}
use Rattle.setscene_plan.specs.Replans.{IsCurrent}
use Rattle.setscene_plan.proofs.Naming.{signed_at}
use Rattle.store_model.specs.declared.signature.EquivRow.{EquivRow}
use Rattle.store_model.specs.Signatures.{Signed}
use Rattle.build_store.specs.declared.step.Step.{Step}
use Rattle.build_store.specs.Openings.{LandsOn, StepsTo}
use Rattle.build_store.specs.View.{View, unshared}
use Rattle.run_queue.specs.declared.fault.RunFault.{RunFault}
use Rattle.run_queue.specs.declared.fault.RunFault.TheVariants as ends
use Rattle.run_queue.specs.Causes.{IsCause}
use Rattle.run_queue.specs.Keeps.{IsRun, IsUpToDate}
use Rattle.run_queue.specs.Puts.{IsSignedAt}
use Rattle.run_queue.specs.Seen.{RunView, known_in, no_meaning, seen}
use Rattle.run_queue.specs.Turns.{Marks, MayRestore, fates_of, without}
use Rattle.run_queue.proofs.Agreement.{some_known}
use Rattle.run_queue.proofs.Hands.{from_without, without_shorter}
use Rattle.run_queue.proofs.OwnSignature.{view_of}
use Rattle.run_queue.proofs.Resettling.{state_after}
use Rattle.run_queue.proofs.Restored.{done_view, marked_view, mend_fault, mend_goes_on, restored_order}
use Rattle.run_queue.proofs.States.{fault_state, hands_state}
use Rattle.run_queue.proofs.Steady.{steady_none}
use Rattle.run_queue.proofs.Turning.{none_known, some_current}
use Rattle.run_queue.proofs.state.RunState.step_restoring.Goals as goal

pub restore_step_in-requires-clause-task : goal.restore_step_in-requires-clause-task
restore_step_in-requires-clause-task g c =
    let V : Type 0 = RunView g.row.D.Denot g.row.W.Denot in
    let i = c.self.inside in
    let old : V = record { plan = i.plan; options = i.options; store = i.store; sink = i.sink; sink_failed = i.sink_failed; fault = i.fault; tale = i.tale.items; begun = i.begun.items; restoring = i.restoring.items; ends_wait = i.ends_wait; known = option_map known_in i.replan } in
    let at = sym c.self.view_is in
    let hand = subst (λ (v : V). Contains v.restoring c.args.task) at c.requires.among in
    let lt = c.self.invariant.3.among c.args.task hand in
    lt

pub may_restore-requires : goal.may_restore-requires
may_restore-requires g c =
    let V : Type 0 = RunView g.row.D.Denot g.row.W.Denot in
    let i = c.self.inside in
    let old : V = record { plan = i.plan; options = i.options; store = i.store; sink = i.sink; sink_failed = i.sink_failed; fault = i.fault; tale = i.tale.items; begun = i.begun.items; restoring = i.restoring.items; ends_wait = i.ends_wait; known = option_map known_in i.replan } in
    let store = c.restore_step_in.new.store in
    let at = sym c.self.view_is in
    let hand = subst (λ (v : V). Contains v.restoring c.args.task) at c.requires.among in
    let lt = c.self.invariant.3.among c.args.task hand in
    record { task = lt }

pub invariant_of-self : goal.invariant_of-self
invariant_of-self g c =
    let V : Type 0 = RunView g.row.D.Denot g.row.W.Denot in
    let i = c.self.inside in
    let old : V = record { plan = i.plan; options = i.options; store = i.store; sink = i.sink; sink_failed = i.sink_failed; fault = i.fault; tale = i.tale.items; begun = i.begun.items; restoring = i.restoring.items; ends_wait = i.ends_wait; known = option_map known_in i.replan } in
    let store = c.restore_step_in.new.store in
    let at = sym c.self.view_is in
    let none = subst (λ (v : V). v.fault ≡ None) at c.requires.faultless in
    let e = c.in-Ok-More.ensures in
    let current = subst (λ (r : List EquivRow). IfSome i.replan (IsCurrent no_meaning (view_of i.plan r))) (sym e.rows) c.self.invariant.2 in (
      c.self.invariant.0,
      c.self.invariant.1,
      current,
      state_after (g.D.Disk.faults i.store.disk) (g.D.Disk.faults store.disk) old store i.begun.items i.fault i.replan c.self.invariant.3 none e.faultless refl (λ no. e.unharmed)
          (subst (λ (f : Option RunFault). IfSome f (IsCause (g.D.Disk.faults store.disk) i.plan store.rows i.sink_failed)) (sym none) tt) current,
    )

pub invariant_of-self-in-Ok-Wait : goal.invariant_of-self-in-Ok-Wait
invariant_of-self-in-Ok-Wait g c =
    let V : Type 0 = RunView g.row.D.Denot g.row.W.Denot in
    let i = c.self.inside in
    let old : V = record { plan = i.plan; options = i.options; store = i.store; sink = i.sink; sink_failed = i.sink_failed; fault = i.fault; tale = i.tale.items; begun = i.begun.items; restoring = i.restoring.items; ends_wait = i.ends_wait; known = option_map known_in i.replan } in
    let store = c.restore_step_in.new.store in
    let at = sym c.self.view_is in
    let none = subst (λ (v : V). v.fault ≡ None) at c.requires.faultless in
    let e = c.in-Ok-Wait.ensures in
    let current = subst (λ (r : List EquivRow). IfSome i.replan (IsCurrent no_meaning (view_of i.plan r))) (sym e.rows) c.self.invariant.2 in (
      c.self.invariant.0,
      c.self.invariant.1,
      current,
      state_after (g.D.Disk.faults i.store.disk) (g.D.Disk.faults store.disk) old store i.begun.items i.fault i.replan c.self.invariant.3 none e.faultless refl (λ no. e.unharmed)
          (subst (λ (f : Option RunFault). IfSome f (IsCause (g.D.Disk.faults store.disk) i.plan store.rows i.sink_failed)) (sym none) tt) current,
    )

pub invariant_of-self-in-Ok-Done : goal.invariant_of-self-in-Ok-Done
invariant_of-self-in-Ok-Done g c =
    let V : Type 0 = RunView g.row.D.Denot g.row.W.Denot in
    let i = c.self.inside in
    let old : V = record { plan = i.plan; options = i.options; store = i.store; sink = i.sink; sink_failed = i.sink_failed; fault = i.fault; tale = i.tale.items; begun = i.begun.items; restoring = i.restoring.items; ends_wait = i.ends_wait; known = option_map known_in i.replan } in
    let store = c.restore_step_in.new.store in
    let at = sym c.self.view_is in
    let none = subst (λ (v : V). v.fault ≡ None) at c.requires.faultless in
    let e = c.in-Ok-Done.ensures in
    let current = subst (λ (r : List EquivRow). IfSome i.replan (IsCurrent no_meaning (view_of i.plan r))) (sym e.rows) c.self.invariant.2 in (
      c.self.invariant.0,
      c.self.invariant.1,
      current,
      state_after (g.D.Disk.faults i.store.disk) (g.D.Disk.faults store.disk) old store i.begun.items i.fault i.replan c.self.invariant.3 none e.faultless refl (λ no. e.unharmed)
          (subst (λ (f : Option RunFault). IfSome f (IsCause (g.D.Disk.faults store.disk) i.plan store.rows i.sink_failed)) (sym none) tt) current,
    )

pub invariant_of-self-in-Ok-NotOpen : goal.invariant_of-self-in-Ok-NotOpen
invariant_of-self-in-Ok-NotOpen g c =
    let V : Type 0 = RunView g.row.D.Denot g.row.W.Denot in
    let i = c.self.inside in
    let old : V = record { plan = i.plan; options = i.options; store = i.store; sink = i.sink; sink_failed = i.sink_failed; fault = i.fault; tale = i.tale.items; begun = i.begun.items; restoring = i.restoring.items; ends_wait = i.ends_wait; known = option_map known_in i.replan } in
    let store = c.restore_step_in.new.store in
    let at = sym c.self.view_is in
    let none = subst (λ (v : V). v.fault ≡ None) at c.requires.faultless in
    let e = c.in-Ok-NotOpen.ensures in
    let current = subst (λ (r : List EquivRow). IfSome i.replan (IsCurrent no_meaning (view_of i.plan r))) (sym e.rows) c.self.invariant.2 in (
      c.self.invariant.0,
      c.self.invariant.1,
      current,
      state_after (g.D.Disk.faults i.store.disk) (g.D.Disk.faults store.disk) old store i.begun.items i.fault i.replan c.self.invariant.3 none e.faultless refl (λ no. e.unharmed)
          (subst (λ (f : Option RunFault). IfSome f (IsCause (g.D.Disk.faults store.disk) i.plan store.rows i.sink_failed)) (sym none) tt) current,
    )

pub invariant_of-self-in-Err : goal.invariant_of-self-in-Err
invariant_of-self-in-Err g c =
    let V : Type 0 = RunView g.row.D.Denot g.row.W.Denot in
    let i = c.self.inside in
    let old : V = record { plan = i.plan; options = i.options; store = i.store; sink = i.sink; sink_failed = i.sink_failed; fault = i.fault; tale = i.tale.items; begun = i.begun.items; restoring = i.restoring.items; ends_wait = i.ends_wait; known = option_map known_in i.replan } in
    let store = c.restore_step_in.new.store in
    let at = sym c.self.view_is in
    let none = subst (λ (v : V). v.fault ≡ None) at c.requires.faultless in
    let e = c.in-Err.ensures in
    let kept = c.keep.ensures.first none in
    let current = subst (λ (r : List EquivRow). IfSome i.replan (IsCurrent no_meaning (view_of i.plan r))) (sym e.rows) c.self.invariant.2 in (
      c.self.invariant.0,
      c.self.invariant.1,
      current,
      fault_state (g.D.Disk.faults i.store.disk) (g.D.Disk.faults store.disk) old store i.begun.items i.restoring.items c.keep.new.kept c.self.invariant.3 (subst (λ (f : Option RunFault). IsSome f) (sym kept) refl) refl c.self.invariant.3.few c.self.invariant.3.among
          (subst (λ (r : List EquivRow). IfSome (option_map known_in i.replan) (IsUpToDate i.plan r)) (sym e.rows) c.self.invariant.3.current)
          (subst (λ (f : Option RunFault). IfSome f (IsCause (g.D.Disk.faults store.disk) i.plan store.rows i.sink_failed)) (sym kept) e.cause),
    )

pub returns-in-Ok-More-clause-run : goal.returns-in-Ok-More-clause-run
returns-in-Ok-More-clause-run g c tells o run =
    let V : Type 0 = RunView g.row.D.Denot g.row.W.Denot in
    let i = c.self.inside in
    let old : V = record { plan = i.plan; options = i.options; store = i.store; sink = i.sink; sink_failed = i.sink_failed; fault = i.fault; tale = i.tale.items; begun = i.begun.items; restoring = i.restoring.items; ends_wait = i.ends_wait; known = option_map known_in i.replan } in
    let store = c.restore_step_in.new.store in
    let at = sym c.self.view_is in
    let none = subst (λ (v : V). v.fault ≡ None) at c.requires.faultless in
    let hand = subst (λ (v : V). Contains v.restoring c.args.task) at c.requires.among in
    let lt = c.self.invariant.3.among c.args.task hand in
    let before = subst (λ (v : V). IsRun o (seen g.D.Disk.story g.W.Sink.written v)) at run in
    let k = some_current i.plan i.store.rows i.replan c.in-Ok-More.ensures.known c.self.invariant.3.current in
    let steps = subst (λ (st : Step). (y : Signed) → IsSignedAt i.store.rows i.plan.tasks c.args.task y → StepsTo i.store store (unshared y) st) c.in-Ok-More.field-0-is c.in-Ok-More.ensures.steps in
    mend_goes_on g.D.Disk.story g.W.Sink.written o old before none c.self.invariant.3.orderly c.args.task hand lt (g.met.D.Disk.sound i.store.disk tells) store c.in-Ok-More.ensures.rows (c.in-Ok-More.ensures.publishing tells) k.0 k.1 steps

pub returns-in-Ok-Wait-clause-run : goal.returns-in-Ok-Wait-clause-run
returns-in-Ok-Wait-clause-run g c tells o run =
    let V : Type 0 = RunView g.row.D.Denot g.row.W.Denot in
    let i = c.self.inside in
    let old : V = record { plan = i.plan; options = i.options; store = i.store; sink = i.sink; sink_failed = i.sink_failed; fault = i.fault; tale = i.tale.items; begun = i.begun.items; restoring = i.restoring.items; ends_wait = i.ends_wait; known = option_map known_in i.replan } in
    let store = c.restore_step_in.new.store in
    let at = sym c.self.view_is in
    let none = subst (λ (v : V). v.fault ≡ None) at c.requires.faultless in
    let hand = subst (λ (v : V). Contains v.restoring c.args.task) at c.requires.among in
    let lt = c.self.invariant.3.among c.args.task hand in
    let before = subst (λ (v : V). IsRun o (seen g.D.Disk.story g.W.Sink.written v)) at run in
    let k = some_current i.plan i.store.rows i.replan c.in-Ok-Wait.ensures.known c.self.invariant.3.current in
    let steps = subst (λ (st : Step). (y : Signed) → IsSignedAt i.store.rows i.plan.tasks c.args.task y → StepsTo i.store store (unshared y) st) c.in-Ok-Wait.field-0-is c.in-Ok-Wait.ensures.steps in
    mend_goes_on g.D.Disk.story g.W.Sink.written o old before none c.self.invariant.3.orderly c.args.task hand lt (g.met.D.Disk.sound i.store.disk tells) store c.in-Ok-Wait.ensures.rows (c.in-Ok-Wait.ensures.publishing tells) k.0 k.1 steps

pub returns-then-not-may_restore-clause-run : goal.returns-then-not-may_restore-clause-run
returns-then-not-may_restore-clause-run g c tells o run =
    let V : Type 0 = RunView g.row.D.Denot g.row.W.Denot in
    let i = c.self.inside in
    let old : V = record { plan = i.plan; options = i.options; store = i.store; sink = i.sink; sink_failed = i.sink_failed; fault = i.fault; tale = i.tale.items; begun = i.begun.items; restoring = i.restoring.items; ends_wait = i.ends_wait; known = option_map known_in i.replan } in
    let store = c.restore_step_in.new.store in
    let at = sym c.self.view_is in
    let none = subst (λ (v : V). v.fault ≡ None) at c.requires.faultless in
    let hand = subst (λ (v : V). Contains v.restoring c.args.task) at c.requires.among in
    let lt = c.self.invariant.3.among c.args.task hand in
    let before = subst (λ (v : V). IsRun o (seen g.D.Disk.story g.W.Sink.written v)) at run in
    let k = some_current i.plan i.store.rows i.replan c.in-Ok-Done.ensures.known c.self.invariant.3.current in
    let steps = subst (λ (st : Step). (y : Signed) → IsSignedAt i.store.rows i.plan.tasks c.args.task y → StepsTo i.store store (unshared y) st) c.in-Ok-Done.field-0-is c.in-Ok-Done.ensures.steps in
    c.stop_restoring.ensures.run tells o (done_view g.D.Disk.story g.W.Sink.written o old before none c.self.invariant.3.orderly c.args.task hand lt (g.met.D.Disk.sound i.store.disk tells) store c.in-Ok-Done.ensures.rows (c.in-Ok-Done.ensures.publishing tells) k.0 k.1 c.in-Ok-Done.field-0-0 steps)

pub note_waiting-requires-clause-order : goal.note_waiting-requires-clause-order
note_waiting-requires-clause-order g c =
    let V : Type 0 = RunView g.row.D.Denot g.row.W.Denot in
    let i = c.self.inside in
    let old : V = record { plan = i.plan; options = i.options; store = i.store; sink = i.sink; sink_failed = i.sink_failed; fault = i.fault; tale = i.tale.items; begun = i.begun.items; restoring = i.restoring.items; ends_wait = i.ends_wait; known = option_map known_in i.replan } in
    let store = c.restore_step_in.new.store in
    let at = sym c.self.view_is in
    let hand = subst (λ (v : V). Contains v.restoring c.args.task) at c.requires.among in
    let lt = c.self.invariant.3.among c.args.task hand in
    let may : MayRestore (record old { store = store }) c.args.task = c.may_restore.ensures c.if-not-may_restore.false in
    let free = subst (λ (v : V). IsFree (fates_of v) c.args.number) at c.requires.free in
    let now = some_known (IsUpToDate i.plan i.store.rows) (option_map known_in i.replan) may.known may.is_known c.self.invariant.3.current in
    restored_order i.plan.tasks i.tale.items may.known.need c.args.task c.args.number now.need.long may.may.0.needed may.may.0.waits free

pub returns-in-Err-note_waiting-clause-run : goal.returns-in-Err-note_waiting-clause-run
returns-in-Err-note_waiting-clause-run g c tells o run =
    let V : Type 0 = RunView g.row.D.Denot g.row.W.Denot in
    let i = c.self.inside in
    let old : V = record { plan = i.plan; options = i.options; store = i.store; sink = i.sink; sink_failed = i.sink_failed; fault = i.fault; tale = i.tale.items; begun = i.begun.items; restoring = i.restoring.items; ends_wait = i.ends_wait; known = option_map known_in i.replan } in
    let store = c.restore_step_in.new.store in
    let at = sym c.self.view_is in
    let none = subst (λ (v : V). v.fault ≡ None) at c.requires.faultless in
    let hand = subst (λ (v : V). Contains v.restoring c.args.task) at c.requires.among in
    let lt = c.self.invariant.3.among c.args.task hand in
    let before = subst (λ (v : V). IsRun o (seen g.D.Disk.story g.W.Sink.written v)) at run in
    let k = some_current i.plan i.store.rows i.replan c.in-Ok-Done.ensures.known c.self.invariant.3.current in
    let steps = subst (λ (st : Step). (y : Signed) → IsSignedAt i.store.rows i.plan.tasks c.args.task y → StepsTo i.store store (unshared y) st) c.in-Ok-Done.field-0-is c.in-Ok-Done.ensures.steps in
    c.stop_restoring-in-Err-note_waiting.ensures.run tells o (subst (λ (v : V). IsRun o (seen g.D.Disk.story g.W.Sink.written v)) (sym c.in-Err-note_waiting.ensures.wanting)
    (done_view g.D.Disk.story g.W.Sink.written o old before none c.self.invariant.3.orderly c.args.task hand lt (g.met.D.Disk.sound i.store.disk tells) store c.in-Ok-Done.ensures.rows (c.in-Ok-Done.ensures.publishing tells) k.0 k.1 c.in-Ok-Done.field-0-0 steps))

pub invariant_of-self-in-Ok : goal.invariant_of-self-in-Ok
invariant_of-self-in-Ok g c =
    let V : Type 0 = RunView g.row.D.Denot g.row.W.Denot in
    let j = c.self-in-Ok.inside in
    let kept : c.retain.new.self.items ≡ without c.args.task j.restoring.items = filter_same _ _ _ (λ x b f' k. search rules) _ _ c.retain.ensures.filtered in
    let inv = c.self-in-Ok.invariant in (
      inv.0,
      inv.1,
      inv.2,
      hands_state (g.D.Disk.faults j.store.disk) _ c.retain.new.self.items
          (subst (λ (l : List ℕ). length l ≤ j.plan.threads) (sym kept) (let shorter = without_shorter c.args.task j.restoring.items in let few = inv.3.few in omega (arith, shorter, few)))
          (subst (λ (l : List ℕ). (u : ℕ) → Contains l u → u < length j.plan.tasks) (sym kept) (λ u still. inv.3.among u (from_without c.args.task u j.restoring.items still))) inv.3,
    )

pub returns-in-Ok-clause-mends : goal.returns-in-Ok-clause-mends
returns-in-Ok-clause-mends g c =
    let V : Type 0 = RunView g.row.D.Denot g.row.W.Denot in
    let i = c.self.inside in
    let old : V = record { plan = i.plan; options = i.options; store = i.store; sink = i.sink; sink_failed = i.sink_failed; fault = i.fault; tale = i.tale.items; begun = i.begun.items; restoring = i.restoring.items; ends_wait = i.ends_wait; known = option_map known_in i.replan } in
    let store = c.restore_step_in.new.store in
    let at = sym c.self.view_is in
    let none = subst (λ (v : V). v.fault ≡ None) at c.requires.faultless in
    let j = c.self-in-Ok.inside in
    let kept : c.retain.new.self.items ≡ without c.args.task j.restoring.items = filter_same _ _ _ (λ x b f' k. search rules) _ _ c.retain.ensures.filtered in
    let n = c.in-Ok.ensures.notes in (
      subst (λ (v : V). v.fault ≡ None) c.self.view_is none,
      inl (
        subst (λ (v : V). Marks c.args.number (events.Restored c.args.task) v.tale j.tale.items) c.self.view_is (subst (λ (v : V). Marks c.args.number (events.Restored c.args.task) i.tale.items v.tale) (sym c.self-in-Ok.view_is) n.marks),
        kept ∙ ap (λ (v : V). without c.args.task v.restoring) c.self-in-Ok.view_is ∙ ap (without c.args.task) n.restoring ∙ ap (λ (v : V). without c.args.task v.restoring) c.self.view_is,
      ),
    )

pub returns-in-Ok-clause-run : goal.returns-in-Ok-clause-run
returns-in-Ok-clause-run g c tells o run =
    let V : Type 0 = RunView g.row.D.Denot g.row.W.Denot in
    let i = c.self.inside in
    let old : V = record { plan = i.plan; options = i.options; store = i.store; sink = i.sink; sink_failed = i.sink_failed; fault = i.fault; tale = i.tale.items; begun = i.begun.items; restoring = i.restoring.items; ends_wait = i.ends_wait; known = option_map known_in i.replan } in
    let store = c.restore_step_in.new.store in
    let at = sym c.self.view_is in
    let none = subst (λ (v : V). v.fault ≡ None) at c.requires.faultless in
    let hand = subst (λ (v : V). Contains v.restoring c.args.task) at c.requires.among in
    let lt = c.self.invariant.3.among c.args.task hand in
    let before = subst (λ (v : V). IsRun o (seen g.D.Disk.story g.W.Sink.written v)) at run in
    let may : MayRestore (record old { store = store }) c.args.task = c.may_restore.ensures c.if-not-may_restore.false in
    let steps = subst (λ (st : Step). (y : Signed) → IsSignedAt i.store.rows i.plan.tasks c.args.task y → StepsTo i.store store (unshared y) st) c.in-Ok-Done.field-0-is c.in-Ok-Done.ensures.steps in
    let published = subst (λ (st : Step). (y : Signed) → IsSignedAt i.store.rows i.plan.tasks c.args.task y → LandsOn (g.D.Disk.story store.disk) i.store.rows i.store.opened (unshared y) st) c.in-Ok-Done.field-0-is (c.in-Ok-Done.ensures.published tells) in
    let free = subst (λ (v : V). IsFree (fates_of v) c.args.number) at c.requires.free in
    let now = some_known (IsUpToDate i.plan i.store.rows) (option_map known_in i.replan) may.known may.is_known c.self.invariant.3.current in
    let n = c.in-Ok.ensures in
    let j = c.self-in-Ok.inside in
    let kept : c.retain.new.self.items ≡ without c.args.task j.restoring.items = filter_same _ _ _ (λ x b f' k. search rules) _ _ c.retain.ensures.filtered in
    let made = marked_view g.D.Disk.story g.W.Sink.written o old before none c.self.invariant.3.orderly c.args.task hand lt (g.met.D.Disk.sound i.store.disk tells) store c.in-Ok-Done.ensures.rows (c.in-Ok-Done.ensures.publishing tells) may.known now c.in-Ok-Done.field-0-0 steps published
    (g.met.D.Disk.sound store.disk tells) may.is_known may.may may.object c.args.number free c.note_waiting.new.self n.notes (n.moment tells) n.fault in
    let jold : V = record { plan = j.plan; options = j.options; store = j.store; sink = j.sink; sink_failed = j.sink_failed; fault = j.fault; tale = j.tale.items; begun = j.begun.items; restoring = j.restoring.items; ends_wait = j.ends_wait; known = option_map known_in j.replan } in
    subst (λ (l : List ℕ). IsRun o (seen g.D.Disk.story g.W.Sink.written (record jold { restoring = l }))) (sym kept)
    (subst (λ (v : V). IsRun o (record (seen g.D.Disk.story g.W.Sink.written v) { restoring = without c.args.task v.restoring })) (sym c.self-in-Ok.view_is) made)

pub returns-in-Ok-NotOpen-clause-run : goal.returns-in-Ok-NotOpen-clause-run
returns-in-Ok-NotOpen-clause-run g c tells o run =
    let V : Type 0 = RunView g.row.D.Denot g.row.W.Denot in
    let i = c.self.inside in
    let old : V = record { plan = i.plan; options = i.options; store = i.store; sink = i.sink; sink_failed = i.sink_failed; fault = i.fault; tale = i.tale.items; begun = i.begun.items; restoring = i.restoring.items; ends_wait = i.ends_wait; known = option_map known_in i.replan } in
    let store = c.restore_step_in.new.store in
    let at = sym c.self.view_is in
    let none = subst (λ (v : V). v.fault ≡ None) at c.requires.faultless in
    let hand = subst (λ (v : V). Contains v.restoring c.args.task) at c.requires.among in
    let lt = c.self.invariant.3.among c.args.task hand in
    let before = subst (λ (v : V). IsRun o (seen g.D.Disk.story g.W.Sink.written v)) at run in
    let steps = subst (λ (st : Step). (y : Signed) → IsSignedAt i.store.rows i.plan.tasks c.args.task y → StepsTo i.store store (unshared y) st) c.in-Ok-NotOpen.field-0-is c.in-Ok-NotOpen.ensures.steps in
    let x = signed_at i.store.rows i.plan.tasks c.args.task lt in
    c.stop_restoring-in-Ok-NotOpen.ensures.run tells o (subst (λ (v : View g.row.D.Denot). IsRun o (seen g.D.Disk.story g.W.Sink.written (record old { store = v }))) (sym (steps x.0 x.1).0) before)

pub returns-in-Err-clause-steady : goal.returns-in-Err-clause-steady
returns-in-Err-clause-steady g c =
    let V : Type 0 = RunView g.row.D.Denot g.row.W.Denot in
    let i = c.self.inside in
    let old : V = record { plan = i.plan; options = i.options; store = i.store; sink = i.sink; sink_failed = i.sink_failed; fault = i.fault; tale = i.tale.items; begun = i.begun.items; restoring = i.restoring.items; ends_wait = i.ends_wait; known = option_map known_in i.replan } in
    let store = c.restore_step_in.new.store in
    let at = sym c.self.view_is in
    let none = subst (λ (v : V). v.fault ≡ None) at c.requires.faultless in
    c.keep.ensures.steady c.in-Err.ensures.steady (steady_none i.fault none)

pub returns-in-Err-clause-run : goal.returns-in-Err-clause-run
returns-in-Err-clause-run g c tells o run =
    let V : Type 0 = RunView g.row.D.Denot g.row.W.Denot in
    let i = c.self.inside in
    let old : V = record { plan = i.plan; options = i.options; store = i.store; sink = i.sink; sink_failed = i.sink_failed; fault = i.fault; tale = i.tale.items; begun = i.begun.items; restoring = i.restoring.items; ends_wait = i.ends_wait; known = option_map known_in i.replan } in
    let store = c.restore_step_in.new.store in
    let at = sym c.self.view_is in
    let none = subst (λ (v : V). v.fault ≡ None) at c.requires.faultless in
    let hand = subst (λ (v : V). Contains v.restoring c.args.task) at c.requires.among in
    let lt = c.self.invariant.3.among c.args.task hand in
    let before = subst (λ (v : V). IsRun o (seen g.D.Disk.story g.W.Sink.written v)) at run in
    subst (λ (f : Option RunFault). IsRun o (seen g.D.Disk.story g.W.Sink.written (record old { store = store; fault = f }))) (sym (c.keep.ensures.first none))
    (mend_fault g.D.Disk.story g.W.Sink.written o old before none c.self.invariant.3.orderly c.args.task hand lt (g.met.D.Disk.sound i.store.disk tells) store c.in-Err.ensures.rows (c.in-Err.ensures.publishing tells) (ends.Store c.in-Err.fault) c.self.invariant.3.current (λ n. c.in-Err.ensures.unlooked (none_known i.replan n)) c.in-Err.ensures.touched)
