use Rattle.std.proofs.Common.{◌≡◌, ◌∙◌, sym, ap, subst, refl, ℕ, ◌<◌, Bool, List, length, Option, None}
use Rattle.std.specs.Prelude.{IfSome, IsSome}
use Rattle.std.specs.Option.{option_map}
use Rattle.std.proofs.lemmas.Option.{same_Some}
use Rattle.meta_model.specs.declared.event.Avail.{Avail}
use Rattle.meta_model.specs.declared.event.Cut.TheVariants as cuts
use Rattle.build_store.specs.declared.fault.StoreFault.TheVariants as fault_of
use Rattle.build_store.specs.declared.step.Step.{Step}
use Rattle.build_store.specs.Openings.{LandsOn, StepsTo}
use Rattle.build_store.specs.Publication.{rows_with}
use Rattle.build_store.specs.View.{View}
use Rattle.run_queue.specs.declared.fault.RunFault.{RunFault}
use Rattle.run_queue.specs.declared.fault.RunFault.TheVariants as ends
use Rattle.tale_model.specs.declared.fate.Fate.TheVariants.{Running}
use Rattle.tale_model.specs.Fates.{fate_at, fates_told}
use Rattle.run_core.proofs.Steps.{count_told}
use Rattle.setscene_plan.specs.declared.replan.Replan.{Replan}
use Rattle.setscene_plan.specs.Replans.{IsCurrent}
use Rattle.setscene_plan.proofs.Naming.{signed_at}
use Rattle.store_model.specs.declared.signature.EquivRow.{EquivRow}
use Rattle.store_model.specs.Signatures.{Signed}
use Rattle.run_queue.specs.Asking.{earlier_in, kept_or_meant}
use Rattle.run_queue.specs.Causes.{IsCause}
use Rattle.run_queue.specs.Keeps.{IsRun, IsState}
use Rattle.run_queue.specs.Puts.{IsSignedAt}
use Rattle.run_queue.specs.Seen.{RunView, known_in, no_meaning, seen}
use Rattle.run_queue.specs.Turns.{fates_of}
use Rattle.run_queue.proofs.Breaking.{running_within}
use Rattle.run_queue.proofs.OwnSignature.{view_of}
use Rattle.run_queue.proofs.Resettling.{current_anyway, made_by, settled_put, state_after}
use Rattle.run_queue.proofs.Turning.{broken_seen, ended_seen, none_known, some_current, some_replan, spared_by, step_fault_seen, stepped_seen}
use Rattle.run_queue.proofs.state.RunState.step_turn.Goals as goal

pub step_in-requires-clause-task : goal.step_in-requires-clause-task
step_in-requires-clause-task g c =
    let V : Type 0 = RunView g.row.D.Denot g.row.W.Denot in
    let i = c.self.inside in
    let runs = subst (λ (v : V). fate_at (fates_of v) c.args.task ≡ Running c.args.number) (sym (c.self.view_is ∙ c.end_waits.ensures.same)) c.requires.runs in
    subst (λ (n : ℕ). c.args.task < n) (count_told (length i.plan.tasks) i.tale.items) (running_within (fates_told (length i.plan.tasks) i.tale.items) c.args.task c.args.number runs)

pub resettle-requires-clause-task : goal.resettle-requires-clause-task
resettle-requires-clause-task g c =
    let V : Type 0 = RunView g.row.D.Denot g.row.W.Denot in
    let i = c.self.inside in
    let runs = subst (λ (v : V). fate_at (fates_of v) c.args.task ≡ Running c.args.number) (sym (c.self.view_is ∙ c.end_waits.ensures.same)) c.requires.runs in
    subst (λ (n : ℕ). c.args.task < n) (count_told (length i.plan.tasks) i.tale.items) (running_within (fates_told (length i.plan.tasks) i.tale.items) c.args.task c.args.number runs)

pub resettle-requires-clause-settled : goal.resettle-requires-clause-settled
resettle-requires-clause-settled g c =
    let V : Type 0 = RunView g.row.D.Denot g.row.W.Denot in
    let i = c.self.inside in
    let old : V = record { plan = i.plan; options = i.options; store = i.store; sink = i.sink; sink_failed = i.sink_failed; fault = i.fault; tale = i.tale.items; begun = i.begun.items; restoring = i.restoring.items; ends_wait = i.ends_wait; known = option_map known_in i.replan } in
    let store = c.step_in.new.store in
    let at = sym (c.self.view_is ∙ c.end_waits.ensures.same) in
    let runs = subst (λ (v : V). fate_at (fates_of v) c.args.task ≡ Running c.args.number) at c.requires.runs in
    let lt = subst (λ (n : ℕ). c.args.task < n) (count_told (length i.plan.tasks) i.tale.items) (running_within (fates_told (length i.plan.tasks) i.tale.items) c.args.task c.args.number runs) in
    let none = subst (λ (v : V). v.fault ≡ None) at c.requires.faultless in
    let x = signed_at i.store.rows i.plan.tasks c.args.task lt in
    let steps = subst (λ (st : Step). (s : Signed) → IsSignedAt i.store.rows i.plan.tasks c.args.task s → StepsTo i.store store s st) c.in-Ok-Done.field-0-is c.in-Ok-Done.ensures.steps in
    let land = steps x.0 x.1 in
    settled_put i.plan i.store.rows store.rows c.args.task i.replan land.tree c.self.invariant.3.sound lt c.self.invariant.2
    (λ s is. land.rows ∙ ap (λ (y : Signed). rows_with i.store.rows y land.tree) (same_Some x.0 s (sym x.1 ∙ is)))

-- ---- what every state keeps

pub invariant_of-self : goal.invariant_of-self
invariant_of-self g c =
    let V : Type 0 = RunView g.row.D.Denot g.row.W.Denot in
    let i = c.self.inside in
    let old : V = record { plan = i.plan; options = i.options; store = i.store; sink = i.sink; sink_failed = i.sink_failed; fault = i.fault; tale = i.tale.items; begun = i.begun.items; restoring = i.restoring.items; ends_wait = i.ends_wait; known = option_map known_in i.replan } in
    let store = c.step_in.new.store in
    let at = sym (c.self.view_is ∙ c.end_waits.ensures.same) in
    let runs = subst (λ (v : V). fate_at (fates_of v) c.args.task ≡ Running c.args.number) at c.requires.runs in
    let lt = subst (λ (n : ℕ). c.args.task < n) (count_told (length i.plan.tasks) i.tale.items) (running_within (fates_told (length i.plan.tasks) i.tale.items) c.args.task c.args.number runs) in
    let none = subst (λ (v : V). v.fault ≡ None) at c.requires.faultless in
    let x = signed_at i.store.rows i.plan.tasks c.args.task lt in
    let steps = subst (λ (st : Step). (s : Signed) → IsSignedAt i.store.rows i.plan.tasks c.args.task s → StepsTo i.store store s st) c.in-Ok-NotOpen.field-0-is c.in-Ok-NotOpen.ensures.steps in
    let same = (steps x.0 x.1).0 in (
      c.self.invariant.0,
      c.self.invariant.1,
      subst (λ (v : View g.row.D.Denot). IfSome i.replan (IsCurrent no_meaning (view_of i.plan v.rows))) (sym same) c.self.invariant.2,
      subst (λ (v : View g.row.D.Denot). IsState (g.D.Disk.faults v.disk) (record old { store = v })) (sym same) c.self.invariant.3,
    )

pub invariant_of-self-in-Ok-More : goal.invariant_of-self-in-Ok-More
invariant_of-self-in-Ok-More g c =
    let V : Type 0 = RunView g.row.D.Denot g.row.W.Denot in
    let i = c.self.inside in
    let old : V = record { plan = i.plan; options = i.options; store = i.store; sink = i.sink; sink_failed = i.sink_failed; fault = i.fault; tale = i.tale.items; begun = i.begun.items; restoring = i.restoring.items; ends_wait = i.ends_wait; known = option_map known_in i.replan } in
    let store = c.step_in.new.store in
    let at = sym (c.self.view_is ∙ c.end_waits.ensures.same) in
    let runs = subst (λ (v : V). fate_at (fates_of v) c.args.task ≡ Running c.args.number) at c.requires.runs in
    let lt = subst (λ (n : ℕ). c.args.task < n) (count_told (length i.plan.tasks) i.tale.items) (running_within (fates_told (length i.plan.tasks) i.tale.items) c.args.task c.args.number runs) in
    let none = subst (λ (v : V). v.fault ≡ None) at c.requires.faultless in
    let x = signed_at i.store.rows i.plan.tasks c.args.task lt in
    let steps = subst (λ (st : Step). (s : Signed) → IsSignedAt i.store.rows i.plan.tasks c.args.task s → StepsTo i.store store s st) c.in-Ok-More.field-0-is c.in-Ok-More.ensures.steps in
    let books = (steps x.0 x.1).books in
    let current = subst (λ (r : List EquivRow). IfSome i.replan (IsCurrent no_meaning (view_of i.plan r))) (sym books.rows) c.self.invariant.2 in (
      c.self.invariant.0,
      c.self.invariant.1,
      current,
      state_after (g.D.Disk.faults i.store.disk) (g.D.Disk.faults store.disk) old store i.begun.items i.fault i.replan c.self.invariant.3 none books.faultless refl
          (λ no. c.in-Ok-More.ensures.unharmed) (subst (λ (f : Option RunFault). IfSome f (IsCause (g.D.Disk.faults store.disk) i.plan store.rows i.sink_failed)) (sym none) tt) current,
    )

pub invariant_of-self-in-Ok-Wait : goal.invariant_of-self-in-Ok-Wait
invariant_of-self-in-Ok-Wait g c =
    let V : Type 0 = RunView g.row.D.Denot g.row.W.Denot in
    let i = c.self.inside in
    let old : V = record { plan = i.plan; options = i.options; store = i.store; sink = i.sink; sink_failed = i.sink_failed; fault = i.fault; tale = i.tale.items; begun = i.begun.items; restoring = i.restoring.items; ends_wait = i.ends_wait; known = option_map known_in i.replan } in
    let store = c.step_in.new.store in
    let at = sym (c.self.view_is ∙ c.end_waits.ensures.same) in
    let runs = subst (λ (v : V). fate_at (fates_of v) c.args.task ≡ Running c.args.number) at c.requires.runs in
    let lt = subst (λ (n : ℕ). c.args.task < n) (count_told (length i.plan.tasks) i.tale.items) (running_within (fates_told (length i.plan.tasks) i.tale.items) c.args.task c.args.number runs) in
    let none = subst (λ (v : V). v.fault ≡ None) at c.requires.faultless in
    let x = signed_at i.store.rows i.plan.tasks c.args.task lt in
    let steps = subst (λ (st : Step). (s : Signed) → IsSignedAt i.store.rows i.plan.tasks c.args.task s → StepsTo i.store store s st) c.in-Ok-Wait.field-0-is c.in-Ok-Wait.ensures.steps in
    let books = (steps x.0 x.1).books in
    let current = subst (λ (r : List EquivRow). IfSome i.replan (IsCurrent no_meaning (view_of i.plan r))) (sym books.rows) c.self.invariant.2 in (
      c.self.invariant.0,
      c.self.invariant.1,
      current,
      state_after (g.D.Disk.faults i.store.disk) (g.D.Disk.faults store.disk) old store i.begun.items i.fault i.replan c.self.invariant.3 none books.faultless refl
          (λ no. c.in-Ok-Wait.ensures.unharmed) (subst (λ (f : Option RunFault). IfSome f (IsCause (g.D.Disk.faults store.disk) i.plan store.rows i.sink_failed)) (sym none) tt) current,
    )

pub invariant_of-self-in-Ok-Done : goal.invariant_of-self-in-Ok-Done
invariant_of-self-in-Ok-Done g c =
    let V : Type 0 = RunView g.row.D.Denot g.row.W.Denot in
    let i = c.self.inside in
    let old : V = record { plan = i.plan; options = i.options; store = i.store; sink = i.sink; sink_failed = i.sink_failed; fault = i.fault; tale = i.tale.items; begun = i.begun.items; restoring = i.restoring.items; ends_wait = i.ends_wait; known = option_map known_in i.replan } in
    let store = c.step_in.new.store in
    let at = sym (c.self.view_is ∙ c.end_waits.ensures.same) in
    let runs = subst (λ (v : V). fate_at (fates_of v) c.args.task ≡ Running c.args.number) at c.requires.runs in
    let lt = subst (λ (n : ℕ). c.args.task < n) (count_told (length i.plan.tasks) i.tale.items) (running_within (fates_told (length i.plan.tasks) i.tale.items) c.args.task c.args.number runs) in
    let none = subst (λ (v : V). v.fault ≡ None) at c.requires.faultless in
    let x = signed_at i.store.rows i.plan.tasks c.args.task lt in
    let steps = subst (λ (st : Step). (s : Signed) → IsSignedAt i.store.rows i.plan.tasks c.args.task s → StepsTo i.store store s st) c.in-Ok-Done.field-0-is c.in-Ok-Done.ensures.steps in
    let land = steps x.0 x.1 in
    let after = c.resettle.new.store in
    let r = some_replan i.replan c.in-Ok-Done.ensures.known in
    let says = kept_or_meant (earlier_in r.0) g.D.Disk.tells (g.D.Disk.story store.disk).held store.rows i.options.setscene i.plan.tasks c.as_slice.result.now in
    let made = made_by r.0 i.replan c.resettle.new.replan (λ (k m : Replan). IsCurrent (kept_or_meant (earlier_in k) g.D.Disk.tells (g.D.Disk.story store.disk).held store.rows i.options.setscene i.plan.tasks c.as_slice.result.now) (view_of i.plan store.rows) m) r.1 c.resettle.ensures.current in
    let current = current_anyway says i.plan store.rows after.rows c.resettle.new.replan c.resettle.ensures.same.rows made in (
      c.self.invariant.0,
      c.self.invariant.1,
      current,
      state_after (g.D.Disk.faults i.store.disk) (g.D.Disk.faults after.disk) old after i.begun.items c.resettle.new.fault c.resettle.new.replan c.self.invariant.3 none (c.resettle.ensures.same.faultless ∙ land.faultless)
          refl c.resettle.ensures.unharmed (c.resettle.ensures.cause i.sink_failed) current,
    )

-- ---- nothing was open

pub returns-in-Ok-NotOpen-clause-ends : goal.returns-in-Ok-NotOpen-clause-ends
returns-in-Ok-NotOpen-clause-ends g c =
    let V : Type 0 = RunView g.row.D.Denot g.row.W.Denot in
    let i = c.self.inside in
    let old : V = record { plan = i.plan; options = i.options; store = i.store; sink = i.sink; sink_failed = i.sink_failed; fault = i.fault; tale = i.tale.items; begun = i.begun.items; restoring = i.restoring.items; ends_wait = i.ends_wait; known = option_map known_in i.replan } in
    let store = c.step_in.new.store in
    let at = sym (c.self.view_is ∙ c.end_waits.ensures.same) in
    let runs = subst (λ (v : V). fate_at (fates_of v) c.args.task ≡ Running c.args.number) at c.requires.runs in
    let lt = subst (λ (n : ℕ). c.args.task < n) (count_told (length i.plan.tasks) i.tale.items) (running_within (fates_told (length i.plan.tasks) i.tale.items) c.args.task c.args.number runs) in
    let none = subst (λ (v : V). v.fault ≡ None) at c.requires.faultless in
    let x = signed_at i.store.rows i.plan.tasks c.args.task lt in
    let steps = subst (λ (st : Step). (s : Signed) → IsSignedAt i.store.rows i.plan.tasks c.args.task s → StepsTo i.store store s st) c.in-Ok-NotOpen.field-0-is c.in-Ok-NotOpen.ensures.steps in
    ap (λ (v : View g.row.D.Denot). record old { store = v }) (steps x.0 x.1).0 ∙ c.self.view_is ∙ c.end_waits.ensures.same ∙ ap (λ (b : Bool). record c.args.self.now { ends_wait = b }) (sym (ap (λ (v : V). v.ends_wait) c.self.view_is))

pub returns-in-Ok-NotOpen-clause-run : goal.returns-in-Ok-NotOpen-clause-run
returns-in-Ok-NotOpen-clause-run g c tells o run =
    let V : Type 0 = RunView g.row.D.Denot g.row.W.Denot in
    let i = c.self.inside in
    let old : V = record { plan = i.plan; options = i.options; store = i.store; sink = i.sink; sink_failed = i.sink_failed; fault = i.fault; tale = i.tale.items; begun = i.begun.items; restoring = i.restoring.items; ends_wait = i.ends_wait; known = option_map known_in i.replan } in
    let store = c.step_in.new.store in
    let at = sym (c.self.view_is ∙ c.end_waits.ensures.same) in
    let runs = subst (λ (v : V). fate_at (fates_of v) c.args.task ≡ Running c.args.number) at c.requires.runs in
    let lt = subst (λ (n : ℕ). c.args.task < n) (count_told (length i.plan.tasks) i.tale.items) (running_within (fates_told (length i.plan.tasks) i.tale.items) c.args.task c.args.number runs) in
    let none = subst (λ (v : V). v.fault ≡ None) at c.requires.faultless in
    let x = signed_at i.store.rows i.plan.tasks c.args.task lt in
    let steps = subst (λ (st : Step). (s : Signed) → IsSignedAt i.store.rows i.plan.tasks c.args.task s → StepsTo i.store store s st) c.in-Ok-NotOpen.field-0-is c.in-Ok-NotOpen.ensures.steps in
    subst (λ (v : V). IsRun o (seen g.D.Disk.story g.W.Sink.written v)) (sym (ap (λ (v : View g.row.D.Denot). record old { store = v }) (steps x.0 x.1).0 ∙ c.self.view_is ∙ c.end_waits.ensures.same)) run

-- ---- more is left

pub returns-in-Ok-More-clause-run : goal.returns-in-Ok-More-clause-run
returns-in-Ok-More-clause-run g c tells o run =
    let V : Type 0 = RunView g.row.D.Denot g.row.W.Denot in
    let i = c.self.inside in
    let old : V = record { plan = i.plan; options = i.options; store = i.store; sink = i.sink; sink_failed = i.sink_failed; fault = i.fault; tale = i.tale.items; begun = i.begun.items; restoring = i.restoring.items; ends_wait = i.ends_wait; known = option_map known_in i.replan } in
    let store = c.step_in.new.store in
    let at = sym (c.self.view_is ∙ c.end_waits.ensures.same) in
    let runs = subst (λ (v : V). fate_at (fates_of v) c.args.task ≡ Running c.args.number) at c.requires.runs in
    let lt = subst (λ (n : ℕ). c.args.task < n) (count_told (length i.plan.tasks) i.tale.items) (running_within (fates_told (length i.plan.tasks) i.tale.items) c.args.task c.args.number runs) in
    let none = subst (λ (v : V). v.fault ≡ None) at c.requires.faultless in
    let x = signed_at i.store.rows i.plan.tasks c.args.task lt in
    let steps = subst (λ (st : Step). (s : Signed) → IsSignedAt i.store.rows i.plan.tasks c.args.task s → StepsTo i.store store s st) c.in-Ok-More.field-0-is c.in-Ok-More.ensures.steps in
    let k = some_current i.plan i.store.rows i.replan c.in-Ok-More.ensures.known c.self.invariant.3.current in
    stepped_seen g.D.Disk.story g.W.Sink.written o old c.args.task c.args.number store
    (subst (λ (v : V). IsRun o (seen g.D.Disk.story g.W.Sink.written v)) at run)
    none c.self.invariant.3.orderly runs lt (g.met.D.Disk.sound i.store.disk tells) (c.in-Ok-More.ensures.publishing tells)
    k.0 k.1 steps

pub returns-in-Ok-Wait-clause-run : goal.returns-in-Ok-Wait-clause-run
returns-in-Ok-Wait-clause-run g c tells o run =
    let V : Type 0 = RunView g.row.D.Denot g.row.W.Denot in
    let i = c.self.inside in
    let old : V = record { plan = i.plan; options = i.options; store = i.store; sink = i.sink; sink_failed = i.sink_failed; fault = i.fault; tale = i.tale.items; begun = i.begun.items; restoring = i.restoring.items; ends_wait = i.ends_wait; known = option_map known_in i.replan } in
    let store = c.step_in.new.store in
    let at = sym (c.self.view_is ∙ c.end_waits.ensures.same) in
    let runs = subst (λ (v : V). fate_at (fates_of v) c.args.task ≡ Running c.args.number) at c.requires.runs in
    let lt = subst (λ (n : ℕ). c.args.task < n) (count_told (length i.plan.tasks) i.tale.items) (running_within (fates_told (length i.plan.tasks) i.tale.items) c.args.task c.args.number runs) in
    let none = subst (λ (v : V). v.fault ≡ None) at c.requires.faultless in
    let x = signed_at i.store.rows i.plan.tasks c.args.task lt in
    let steps = subst (λ (st : Step). (s : Signed) → IsSignedAt i.store.rows i.plan.tasks c.args.task s → StepsTo i.store store s st) c.in-Ok-Wait.field-0-is c.in-Ok-Wait.ensures.steps in
    let k = some_current i.plan i.store.rows i.replan c.in-Ok-Wait.ensures.known c.self.invariant.3.current in
    stepped_seen g.D.Disk.story g.W.Sink.written o old c.args.task c.args.number store
    (subst (λ (v : V). IsRun o (seen g.D.Disk.story g.W.Sink.written v)) at run)
    none c.self.invariant.3.orderly runs lt (g.met.D.Disk.sound i.store.disk tells) (c.in-Ok-Wait.ensures.publishing tells)
    k.0 k.1 steps

-- ---- the task has ended

pub returns-in-Ok-Done-clause-run : goal.returns-in-Ok-Done-clause-run
returns-in-Ok-Done-clause-run g c tells o run =
    let V : Type 0 = RunView g.row.D.Denot g.row.W.Denot in
    let i = c.self.inside in
    let old : V = record { plan = i.plan; options = i.options; store = i.store; sink = i.sink; sink_failed = i.sink_failed; fault = i.fault; tale = i.tale.items; begun = i.begun.items; restoring = i.restoring.items; ends_wait = i.ends_wait; known = option_map known_in i.replan } in
    let store = c.step_in.new.store in
    let at = sym (c.self.view_is ∙ c.end_waits.ensures.same) in
    let runs = subst (λ (v : V). fate_at (fates_of v) c.args.task ≡ Running c.args.number) at c.requires.runs in
    let lt = subst (λ (n : ℕ). c.args.task < n) (count_told (length i.plan.tasks) i.tale.items) (running_within (fates_told (length i.plan.tasks) i.tale.items) c.args.task c.args.number runs) in
    let none = subst (λ (v : V). v.fault ≡ None) at c.requires.faultless in
    let x = signed_at i.store.rows i.plan.tasks c.args.task lt in
    let steps = subst (λ (st : Step). (s : Signed) → IsSignedAt i.store.rows i.plan.tasks c.args.task s → StepsTo i.store store s st) c.in-Ok-Done.field-0-is c.in-Ok-Done.ensures.steps in
    let after = c.resettle.new.store in
    let r = some_replan i.replan c.in-Ok-Done.ensures.known in
    let k = some_current i.plan i.store.rows i.replan c.in-Ok-Done.ensures.known c.self.invariant.3.current in
    let was = subst (λ (x : Option Replan). IfSome x (IsCurrent no_meaning (view_of i.plan i.store.rows))) r.1 c.self.invariant.2 in
    let made = made_by r.0 i.replan c.resettle.new.replan (λ (q m : Replan). IsCurrent (kept_or_meant (earlier_in q) g.D.Disk.tells (g.D.Disk.story store.disk).held store.rows i.options.setscene i.plan.tasks c.as_slice.result.now) (view_of i.plan store.rows) m) r.1 c.resettle.ensures.current in
    let published = subst (λ (st : Step). (s : Signed) → IsSignedAt i.store.rows i.plan.tasks c.args.task s → LandsOn (g.D.Disk.story store.disk) i.store.rows i.store.opened s st) c.in-Ok-Done.field-0-is (c.in-Ok-Done.ensures.published tells) in
    ended_seen g.D.Disk.story g.W.Sink.written o old c.args.task c.args.number store
    (subst (λ (v : V). IsRun o (seen g.D.Disk.story g.W.Sink.written v)) at run)
    none c.self.invariant.3.orderly runs lt (g.met.D.Disk.sound i.store.disk tells) (c.in-Ok-Done.ensures.publishing tells)
    c.note.new.self k.0 k.1 after c.resettle.ensures.same (c.resettle.ensures.images tells) (g.met.D.Disk.sound after.disk tells)
    c.in-Ok-Done.field-0-0 steps published
    g.D.Disk.tells tells r.0 (ap (option_map known_in) r.1) was c.resettle.new.replan c.resettle.new.fault
    (subst (λ (b : List (Option Avail)). IfSome c.resettle.new.replan (IsCurrent (kept_or_meant (earlier_in r.0) g.D.Disk.tells (g.D.Disk.story store.disk).held store.rows i.options.setscene i.plan.tasks b) (view_of i.plan store.rows))) c.as_slice.ensures.value made)
    c.note.ensures.notes (c.note.ensures.moment tells)

-- ---- a fault

pub returns-in-Err-Memory-clause-run : goal.returns-in-Err-Memory-clause-run
returns-in-Err-Memory-clause-run g c tells o run =
    let V : Type 0 = RunView g.row.D.Denot g.row.W.Denot in
    let i = c.self.inside in
    let old : V = record { plan = i.plan; options = i.options; store = i.store; sink = i.sink; sink_failed = i.sink_failed; fault = i.fault; tale = i.tale.items; begun = i.begun.items; restoring = i.restoring.items; ends_wait = i.ends_wait; known = option_map known_in i.replan } in
    let store = c.step_in.new.store in
    let at = sym (c.self.view_is ∙ c.end_waits.ensures.same) in
    let runs = subst (λ (v : V). fate_at (fates_of v) c.args.task ≡ Running c.args.number) at c.requires.runs in
    let lt = subst (λ (n : ℕ). c.args.task < n) (count_told (length i.plan.tasks) i.tale.items) (running_within (fates_told (length i.plan.tasks) i.tale.items) c.args.task c.args.number runs) in
    let none = subst (λ (v : V). v.fault ≡ None) at c.requires.faultless in
    let x = signed_at i.store.rows i.plan.tasks c.args.task lt in
    let mid : V = record old { store = store; fault = c.keep.new.kept } in
    let kept = c.keep.ensures.first none in
    let some = subst (λ (f : Option RunFault). IsSome f) (sym kept) refl in
    let made = step_fault_seen g.D.Disk.story g.W.Sink.written o old c.args.task c.args.number store
    (subst (λ (v : V). IsRun o (seen g.D.Disk.story g.W.Sink.written v)) at run)
    none c.self.invariant.3.orderly runs lt (g.met.D.Disk.sound i.store.disk tells) (c.in-Err-Memory.ensures.publishing tells)
    (ends.Store fault_of.Memory) c.self.invariant.3.current c.in-Err-Memory.ensures.refused_rows (λ n. c.in-Err-Memory.ensures.unlooked (none_known i.replan n)) c.in-Err-Memory.ensures.touched in
    broken_seen g.D.Disk.story g.W.Sink.written o mid c.note-in-Err-Memory.new.self c.args.task c.args.number cuts.Memory c.note-in-Err-Memory.ensures.notes (c.note-in-Err-Memory.ensures.moment tells) c.note-in-Err-Memory.ensures.fault runs
    (spared_by (seen g.D.Disk.story g.W.Sink.written mid) c.args.number c.args.task cuts.Memory (λ e. cc) some)
    (subst (λ (f : Option RunFault). IsRun o (seen g.D.Disk.story g.W.Sink.written (record old { store = store; fault = f }))) (sym kept) made)

pub returns-in-Err-clause-run : goal.returns-in-Err-clause-run
returns-in-Err-clause-run g c tells o run =
    let V : Type 0 = RunView g.row.D.Denot g.row.W.Denot in
    let i = c.self.inside in
    let old : V = record { plan = i.plan; options = i.options; store = i.store; sink = i.sink; sink_failed = i.sink_failed; fault = i.fault; tale = i.tale.items; begun = i.begun.items; restoring = i.restoring.items; ends_wait = i.ends_wait; known = option_map known_in i.replan } in
    let store = c.step_in.new.store in
    let at = sym (c.self.view_is ∙ c.end_waits.ensures.same) in
    let runs = subst (λ (v : V). fate_at (fates_of v) c.args.task ≡ Running c.args.number) at c.requires.runs in
    let lt = subst (λ (n : ℕ). c.args.task < n) (count_told (length i.plan.tasks) i.tale.items) (running_within (fates_told (length i.plan.tasks) i.tale.items) c.args.task c.args.number runs) in
    let none = subst (λ (v : V). v.fault ≡ None) at c.requires.faultless in
    let x = signed_at i.store.rows i.plan.tasks c.args.task lt in
    let mid : V = record old { store = store; fault = c.keep-in-Err.new.kept } in
    let kept = c.keep-in-Err.ensures.first none in
    let some = subst (λ (f : Option RunFault). IsSome f) (sym kept) refl in
    let made = step_fault_seen g.D.Disk.story g.W.Sink.written o old c.args.task c.args.number store
    (subst (λ (v : V). IsRun o (seen g.D.Disk.story g.W.Sink.written v)) at run)
    none c.self.invariant.3.orderly runs lt (g.met.D.Disk.sound i.store.disk tells) (c.in-Err.ensures.publishing tells)
    (ends.Store c.in-Err.met) c.self.invariant.3.current c.in-Err.ensures.refused_rows (λ n. c.in-Err.ensures.unlooked (none_known i.replan n)) c.in-Err.ensures.touched in
    broken_seen g.D.Disk.story g.W.Sink.written o mid c.note-in-Err.new.self c.args.task c.args.number cuts.Fault c.note-in-Err.ensures.notes (c.note-in-Err.ensures.moment tells) c.note-in-Err.ensures.fault runs
    (spared_by (seen g.D.Disk.story g.W.Sink.written mid) c.args.number c.args.task cuts.Fault (λ e. cc) some)
    (subst (λ (f : Option RunFault). IsRun o (seen g.D.Disk.story g.W.Sink.written (record old { store = store; fault = f }))) (sym kept) made)

-- ---- the end waits

pub returns-then-end_waits-clause-ends : goal.returns-then-end_waits-clause-ends
returns-then-end_waits-clause-ends g c =
    let V : Type 0 = RunView g.row.D.Denot g.row.W.Denot in
    let same = c.end_waits.ensures.same in
    record { tale = ap (λ (v : V). v.tale) same; sound = c.requires.faultless; fault = ap (λ (v : V). v.fault) same ∙ c.requires.faultless }

pub returns-then-end_waits-clause-run : goal.returns-then-end_waits-clause-run
returns-then-end_waits-clause-run g c tells o run = c.end_waits.ensures.run tells o run

pub end_waits-requires : goal.end_waits-requires
end_waits-requires g c =
    let v = c.args.self.now in
    record { task = subst (λ (n : ℕ). c.args.task < n) (count_told (length v.plan.tasks) v.tale) (running_within (fates_told (length v.plan.tasks) v.tale) c.args.task c.args.number c.requires.runs) }
