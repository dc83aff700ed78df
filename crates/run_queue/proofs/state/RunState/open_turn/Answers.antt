use Rattle.std.proofs.Common.{◌≡◌, ◌∙◌, sym, subst, refl, ℕ, ◌<◌, List, length, Option, Some, None, arith, set}
use Rattle.std.specs.Prelude.{IfSome, IsSome, slice_set}
use Rattle.std.specs.Option.{option_map}
use Rattle.std.proofs.lemmas.List.{length-set}
use Rattle.meta_model.specs.declared.event.Avail.TheVariants.{Missing}
use Rattle.meta_model.specs.declared.event.Cut.TheVariants as cuts
use Rattle.build_store.specs.declared.fault.StoreFault.TheVariants as fault_of
use Rattle.run_queue.specs.declared.fault.RunFault.{RunFault}
use Rattle.run_queue.specs.declared.fault.RunFault.TheVariants as ends
use Rattle.tale_model.specs.declared.fate.Fate.TheVariants.{Running}
use Rattle.tale_model.specs.Fates.{fate_at, fates_told}
use Rattle.run_core.proofs.Steps.{count_told}
use Rattle.setscene_plan.specs.Replans.{IsCurrent}
use Rattle.setscene_plan.proofs.Naming.{signed_at}
use Rattle.store_model.specs.declared.signature.EquivRow.{EquivRow}
use Rattle.task_worker.specs.declared.given.Given.TheVariants as givens
use Rattle.run_queue.specs.Causes.{IsCause, IsOfGiven, IsStoreOfGiven}
use Rattle.run_queue.specs.Keeps.{IsRun}
use Rattle.run_queue.specs.Puts.{IsCleanOutput}
use Rattle.run_queue.specs.Seen.{RunView, known_in, no_meaning, seen}
use Rattle.run_queue.specs.Turns.{fates_of}
use Rattle.run_queue.proofs.Breaking.{running_within}
use Rattle.run_queue.proofs.OwnSignature.{view_of}
use Rattle.run_queue.proofs.Resettling.{state_after}
use Rattle.run_queue.proofs.Steady.{agreed, steady_none}
use Rattle.run_queue.proofs.Turning.{begins_at, broken_seen, none_known, open_fault_seen, opened_seen, set_here, some_current, spared_by}
use Rattle.run_queue.proofs.state.RunState.open_turn.Goals as goal

pub index_mut-requires : goal.index_mut-requires
index_mut-requires g c =
    let V : Type 0 = RunView g.row.D.Denot g.row.W.Denot in
    let i = c.self.inside in
    let runs = subst (λ (v : V). fate_at (fates_of v) c.args.task ≡ Running c.args.number) (sym c.self.view_is) c.requires.runs in
    let lt = subst (λ (n : ℕ). c.args.task < n) (count_told (length i.plan.tasks) i.tale.items) (running_within (fates_told (length i.plan.tasks) i.tale.items) c.args.task c.args.number runs) in
    let long = c.self.invariant.3.long in
    omega (arith, lt, long, i.begun.ok)

pub open_in-requires-clause-task : goal.open_in-requires-clause-task
open_in-requires-clause-task g c =
    let V : Type 0 = RunView g.row.D.Denot g.row.W.Denot in
    let i = c.self.inside in
    let runs = subst (λ (v : V). fate_at (fates_of v) c.args.task ≡ Running c.args.number) (sym c.self.view_is) c.requires.runs in
    subst (λ (n : ℕ). c.args.task < n) (count_told (length i.plan.tasks) i.tale.items) (running_within (fates_told (length i.plan.tasks) i.tale.items) c.args.task c.args.number runs)

pub invariant_of-self : goal.invariant_of-self
invariant_of-self g c =
    let V : Type 0 = RunView g.row.D.Denot g.row.W.Denot in
    let i = c.self.inside in
    let old : V = record { plan = i.plan; options = i.options; store = i.store; sink = i.sink; sink_failed = i.sink_failed; fault = i.fault; tale = i.tale.items; begun = i.begun.items; restoring = i.restoring.items; ends_wait = i.ends_wait; known = option_map known_in i.replan } in
    let store = c.open_in.new.store in
    let none = subst (λ (v : V). v.fault ≡ None) (sym c.self.view_is) c.requires.faultless in
    let runs = subst (λ (v : V). fate_at (fates_of v) c.args.task ≡ Running c.args.number) (sym c.self.view_is) c.requires.runs in
    let lt = subst (λ (n : ℕ). c.args.task < n) (count_told (length i.plan.tasks) i.tale.items) (running_within (fates_told (length i.plan.tasks) i.tale.items) c.args.task c.args.number runs) in
    let x = signed_at i.store.rows i.plan.tasks c.args.task lt in
    let opens = (c.in-Ok.ensures.opens x.0 x.1).0 in
    let current = subst (λ (r : List EquivRow). IfSome i.replan (IsCurrent no_meaning (view_of i.plan r))) (sym c.in-Ok.ensures.rows) c.self.invariant.2 in (
      c.self.invariant.0,
      c.self.invariant.1,
      current,
      state_after (g.D.Disk.faults i.store.disk) (g.D.Disk.faults store.disk) old store (set i.begun.items c.args.task (Some Missing)) i.fault i.replan c.self.invariant.3 none opens.faultless
          (length-set i.begun.items c.args.task (Some Missing)) (λ no. c.in-Ok.ensures.unharmed) (subst (λ (f : Option RunFault). IfSome f (IsCause (g.D.Disk.faults store.disk) i.plan store.rows i.sink_failed)) (sym none) tt) current,
    )

pub returns-in-Ok-clause-run : goal.returns-in-Ok-clause-run
returns-in-Ok-clause-run g c tells o run output =
    let V : Type 0 = RunView g.row.D.Denot g.row.W.Denot in
    let i = c.self.inside in
    let old : V = record { plan = i.plan; options = i.options; store = i.store; sink = i.sink; sink_failed = i.sink_failed; fault = i.fault; tale = i.tale.items; begun = i.begun.items; restoring = i.restoring.items; ends_wait = i.ends_wait; known = option_map known_in i.replan } in
    let store = c.open_in.new.store in
    let begun = slice_set i.begun.items c.args.task (Some Missing) in
    let at = sym c.self.view_is in
    let runs = subst (λ (v : V). fate_at (fates_of v) c.args.task ≡ Running c.args.number) at c.requires.runs in
    let lt = subst (λ (n : ℕ). c.args.task < n) (count_told (length i.plan.tasks) i.tale.items) (running_within (fates_told (length i.plan.tasks) i.tale.items) c.args.task c.args.number runs) in
    let long = c.self.invariant.3.long in
    let none = subst (λ (v : V). v.fault ≡ None) at c.requires.faultless in
    let k = some_current i.plan i.store.rows i.replan c.in-Ok.ensures.known c.self.invariant.3.current in
    opened_seen g.D.Disk.story g.W.Sink.written o old c.args.task c.args.number c.args.tree store begun
    (subst (λ (v : V). IsRun o (seen g.D.Disk.story g.W.Sink.written v)) at run)
    none c.self.invariant.3.orderly runs lt
    (subst (λ (v : V). IsCleanOutput o.gives v.plan.tasks c.args.task c.args.tree) at output)
    c.requires.is_tree
    (g.met.D.Disk.sound i.store.disk tells)
    (begins_at i.begun.items begun c.args.task Missing (omega (arith, lt, long)) refl)
    (set_here i.begun.items c.args.task (Some Missing) (omega (arith, lt, long)))
    c.in-Ok.ensures.rows k.0 k.1 c.in-Ok.ensures.opens c.in-Ok.ensures.new_key (c.in-Ok.ensures.publishing tells)

pub returns-in-Err-Memory-clause-run : goal.returns-in-Err-Memory-clause-run
returns-in-Err-Memory-clause-run g c tells o run output =
    let V : Type 0 = RunView g.row.D.Denot g.row.W.Denot in
    let i = c.self.inside in
    let old : V = record { plan = i.plan; options = i.options; store = i.store; sink = i.sink; sink_failed = i.sink_failed; fault = i.fault; tale = i.tale.items; begun = i.begun.items; restoring = i.restoring.items; ends_wait = i.ends_wait; known = option_map known_in i.replan } in
    let store = c.open_in.new.store in
    let begun = slice_set i.begun.items c.args.task (Some Missing) in
    let at = sym c.self.view_is in
    let runs = subst (λ (v : V). fate_at (fates_of v) c.args.task ≡ Running c.args.number) at c.requires.runs in
    let lt = subst (λ (n : ℕ). c.args.task < n) (count_told (length i.plan.tasks) i.tale.items) (running_within (fates_told (length i.plan.tasks) i.tale.items) c.args.task c.args.number runs) in
    let long = c.self.invariant.3.long in
    let none = subst (λ (v : V). v.fault ≡ None) at c.requires.faultless in
    let mid : V = record old { store = store; begun = begun; fault = c.keep.new.kept } in
    let kept = c.keep.ensures.first none in
    let some = subst (λ (f : Option RunFault). IsSome f) (sym kept) refl in
    let made = open_fault_seen g.D.Disk.story g.W.Sink.written o old c.args.task c.args.number c.args.tree store begun
    (subst (λ (v : V). IsRun o (seen g.D.Disk.story g.W.Sink.written v)) at run)
    none c.self.invariant.3.orderly runs lt
    (subst (λ (v : V). IsCleanOutput o.gives v.plan.tasks c.args.task c.args.tree) at output)
    c.requires.is_tree
    (g.met.D.Disk.sound i.store.disk tells)
    (begins_at i.begun.items begun c.args.task Missing (omega (arith, lt, long)) refl)
    (set_here i.begun.items c.args.task (Some Missing) (omega (arith, lt, long)))
    c.in-Err-Memory.ensures.rows
    (ends.Store fault_of.Memory) c.self.invariant.3.current (λ n. c.in-Err-Memory.ensures.unlooked (none_known i.replan n)) c.in-Err-Memory.ensures.may c.in-Err-Memory.ensures.new_key (c.in-Err-Memory.ensures.publishing tells) in
    broken_seen g.D.Disk.story g.W.Sink.written o mid c.note.new.self c.args.task c.args.number cuts.Memory c.note.ensures.notes (c.note.ensures.moment tells) c.note.ensures.fault runs
    (spared_by (seen g.D.Disk.story g.W.Sink.written mid) c.args.number c.args.task cuts.Memory (λ e. cc) some)
    (subst (λ (f : Option RunFault). IsRun o (seen g.D.Disk.story g.W.Sink.written (record old { store = store; begun = begun; fault = f }))) (sym kept) made)

pub returns-in-Err-clause-run : goal.returns-in-Err-clause-run
returns-in-Err-clause-run g c tells o run output =
    let V : Type 0 = RunView g.row.D.Denot g.row.W.Denot in
    let i = c.self.inside in
    let old : V = record { plan = i.plan; options = i.options; store = i.store; sink = i.sink; sink_failed = i.sink_failed; fault = i.fault; tale = i.tale.items; begun = i.begun.items; restoring = i.restoring.items; ends_wait = i.ends_wait; known = option_map known_in i.replan } in
    let store = c.open_in.new.store in
    let begun = slice_set i.begun.items c.args.task (Some Missing) in
    let at = sym c.self.view_is in
    let runs = subst (λ (v : V). fate_at (fates_of v) c.args.task ≡ Running c.args.number) at c.requires.runs in
    let lt = subst (λ (n : ℕ). c.args.task < n) (count_told (length i.plan.tasks) i.tale.items) (running_within (fates_told (length i.plan.tasks) i.tale.items) c.args.task c.args.number runs) in
    let long = c.self.invariant.3.long in
    let none = subst (λ (v : V). v.fault ≡ None) at c.requires.faultless in
    let mid : V = record old { store = store; begun = begun; fault = c.keep-in-Err.new.kept } in
    let kept = c.keep-in-Err.ensures.first none in
    let some = subst (λ (f : Option RunFault). IsSome f) (sym kept) refl in
    let made = open_fault_seen g.D.Disk.story g.W.Sink.written o old c.args.task c.args.number c.args.tree store begun
    (subst (λ (v : V). IsRun o (seen g.D.Disk.story g.W.Sink.written v)) at run)
    none c.self.invariant.3.orderly runs lt
    (subst (λ (v : V). IsCleanOutput o.gives v.plan.tasks c.args.task c.args.tree) at output)
    c.requires.is_tree
    (g.met.D.Disk.sound i.store.disk tells)
    (begins_at i.begun.items begun c.args.task Missing (omega (arith, lt, long)) refl)
    (set_here i.begun.items c.args.task (Some Missing) (omega (arith, lt, long)))
    c.in-Err.ensures.rows
    (ends.Store c.in-Err.fault) c.self.invariant.3.current (λ n. c.in-Err.ensures.unlooked (none_known i.replan n)) c.in-Err.ensures.may c.in-Err.ensures.new_key (c.in-Err.ensures.publishing tells) in
    broken_seen g.D.Disk.story g.W.Sink.written o mid c.note-in-Err.new.self c.args.task c.args.number cuts.Fault c.note-in-Err.ensures.notes (c.note-in-Err.ensures.moment tells) c.note-in-Err.ensures.fault runs
    (spared_by (seen g.D.Disk.story g.W.Sink.written mid) c.args.number c.args.task cuts.Fault (λ e. cc) some)
    (subst (λ (f : Option RunFault). IsRun o (seen g.D.Disk.story g.W.Sink.written (record old { store = store; begun = begun; fault = f }))) (sym kept) made)

pub returns-in-Err-clause-steady : goal.returns-in-Err-clause-steady
returns-in-Err-clause-steady g c tells o run output =
    let V : Type 0 = RunView g.row.D.Denot g.row.W.Denot in
    let i = c.self.inside in
    let old : V = record { plan = i.plan; options = i.options; store = i.store; sink = i.sink; sink_failed = i.sink_failed; fault = i.fault; tale = i.tale.items; begun = i.begun.items; restoring = i.restoring.items; ends_wait = i.ends_wait; known = option_map known_in i.replan } in
    let store = c.open_in.new.store in
    let begun = slice_set i.begun.items c.args.task (Some Missing) in
    let at = sym c.self.view_is in
    let runs = subst (λ (v : V). fate_at (fates_of v) c.args.task ≡ Running c.args.number) at c.requires.runs in
    let lt = subst (λ (n : ℕ). c.args.task < n) (count_told (length i.plan.tasks) i.tale.items) (running_within (fates_told (length i.plan.tasks) i.tale.items) c.args.task c.args.number runs) in
    let long = c.self.invariant.3.long in
    let none = subst (λ (v : V). v.fault ≡ None) at c.requires.faultless in
    let before = subst (λ (v : V). IsRun o (seen g.D.Disk.story g.W.Sink.written v)) at run in
    let clean = subst (λ (v : V). IsCleanOutput o.gives v.plan.tasks c.args.task c.args.tree) at output in
    let answer = c.in-Err.ensures.steady (λ known x is.
    let k = some_current i.plan i.store.rows i.replan known c.self.invariant.3.current in
    agreed o (seen g.D.Disk.story g.W.Sink.written old) k.0 c.args.task c.args.number c.args.tree before none c.self.invariant.3.orderly k.1 lt runs clean x is) in
    c.note-in-Err.ensures.steady (c.keep-in-Err.ensures.steady answer (steady_none i.fault none))

pub returns-in-Err-clause-given : goal.returns-in-Err-clause-given
returns-in-Err-clause-given g c =
    let V : Type 0 = RunView g.row.D.Denot g.row.W.Denot in
    let kept = c.keep-in-Err.ensures.first (subst (λ (v : V). v.fault ≡ None) (sym c.self.view_is) c.requires.faultless) in
    let stays = c.note-in-Err.ensures.fault (subst (λ f. IsSome f) (sym kept) refl) ∙ kept in
    subst (λ (f : Option RunFault). IfSome f (IsOfGiven c.args.self.now.plan.tasks c.args.task (givens.Tree c.args.tree c.args.manifest.now))) (sym stays)
    (subst (λ (v : V). IsStoreOfGiven v.plan.tasks c.args.task (givens.Tree c.args.tree c.args.manifest.now) c.in-Err.fault) c.self.view_is c.in-Err.ensures.given)
