use Rattle.std.proofs.Common.{◌≡◌, ◌∙◌, sym, ap, subst, refl, ℕ, ◌<◌, ◌≤◌, Bool, arith, List, [], ◌∷◌, ◌++◌, length, Some, None}
use Rattle.std.specs.Prelude.{Contains, IfSome, IsSome, Option, slice_set}
use Rattle.std.specs.Bool.{OnFalse, OnTrue}
use Rattle.std.specs.List.{slice_get}
use Rattle.std.specs.Option.{option_map}
use Rattle.std.proofs.lemmas.List.{length-set}
use Rattle.meta_model.specs.declared.event.Avail.TheVariants as avails
use Rattle.run_core.specs.declared.next.Next.TheVariants as next
use Rattle.setscene_plan.specs.Replans.{IsCurrent}
use Rattle.store_model.specs.declared.signature.EquivRow.{EquivRow}
use Rattle.store_model.specs.Signatures.{Signed}
use Rattle.build_store.specs.Openings.{OpensRestoring}
use Rattle.build_store.specs.Publication.{HasNoObject}
use Rattle.run_queue.specs.declared.fault.RunFault.{RunFault}
use Rattle.run_queue.specs.declared.fault.RunFault.TheVariants as ends
use Rattle.run_queue.specs.Causes.{IsCause}
use Rattle.run_queue.specs.Keeps.{IsRun, IsUpToDate}
use Rattle.run_queue.specs.Puts.{IsSignedAt}
use Rattle.run_queue.specs.Seen.{Known, RunView, known_in, no_meaning, seen}
use Rattle.run_queue.specs.Turns.{MayDo}
use Rattle.run_queue.proofs.Agreement.{some_known}
use Rattle.run_queue.proofs.OwnSignature.{view_of}
use Rattle.run_queue.proofs.Resettling.{state_after}
use Rattle.run_queue.proofs.Restored.{needed_within, never_gone, opening_fault, opening_view, set_again, told_object, told_opens, x}
use Rattle.run_queue.proofs.States.{fault_state, hands_state, more_hands, one_more}
use Rattle.run_queue.proofs.Steady.{steady_none}
use Rattle.run_queue.proofs.Turning.{begins_at, set_here}
use Rattle.run_queue.proofs.state.RunState.open_restoring.Goals as goal

pub index_mut-requires : goal.index_mut-requires
index_mut-requires g c =
    let V : Type 0 = RunView g.row.D.Denot g.row.W.Denot in
    let i = c.self.inside in
    let old : V = record { plan = i.plan; options = i.options; store = i.store; sink = i.sink; sink_failed = i.sink_failed; fault = i.fault; tale = i.tale.items; begun = i.begun.items; restoring = i.restoring.items; ends_wait = i.ends_wait; known = option_map known_in i.replan } in
    let at = sym c.self.view_is in
    let answer = subst (λ (v : V). MayDo v (next.Settle c.args.task)) at c.requires.answer in
    let now = some_known (IsUpToDate i.plan i.store.rows) (option_map known_in i.replan) answer.known answer.is_known c.self.invariant.3.current in
    let lt = needed_within (length i.plan.tasks) answer.known.need c.args.task now.need.long answer.may.0.needed in
    let long = c.self.invariant.3.long in
    omega (arith, lt, long, i.begun.ok)

pub restore_open_in-requires-clause-task : goal.restore_open_in-requires-clause-task
restore_open_in-requires-clause-task g c =
    let V : Type 0 = RunView g.row.D.Denot g.row.W.Denot in
    let i = c.self.inside in
    let old : V = record { plan = i.plan; options = i.options; store = i.store; sink = i.sink; sink_failed = i.sink_failed; fault = i.fault; tale = i.tale.items; begun = i.begun.items; restoring = i.restoring.items; ends_wait = i.ends_wait; known = option_map known_in i.replan } in
    let at = sym c.self.view_is in
    let answer = subst (λ (v : V). MayDo v (next.Settle c.args.task)) at c.requires.answer in
    let now = some_known (IsUpToDate i.plan i.store.rows) (option_map known_in i.replan) answer.known answer.is_known c.self.invariant.3.current in
    let lt = needed_within (length i.plan.tasks) answer.known.need c.args.task now.need.long answer.may.0.needed in
    let long = c.self.invariant.3.long in
    lt

pub push_reserved-requires : goal.push_reserved-requires
push_reserved-requires g c =
    let V : Type 0 = RunView g.row.D.Denot g.row.W.Denot in
    let i = c.self.inside in
    let old : V = record { plan = i.plan; options = i.options; store = i.store; sink = i.sink; sink_failed = i.sink_failed; fault = i.fault; tale = i.tale.items; begun = i.begun.items; restoring = i.restoring.items; ends_wait = i.ends_wait; known = option_map known_in i.replan } in
    let at = sym c.self.view_is in
    let items : length c.reserve.new.self.items ≡ length i.restoring.items = ap (λ (l : List ℕ). length l) c.reserve.ensures.items in
    let spare = c.in_ok-reserve.ensures.ok in
    omega (arith, items, spare, c.reserve.new.self.ok)

pub index_mut-requires-in-Ok-false : goal.index_mut-requires-in-Ok-false
index_mut-requires-in-Ok-false g c =
    let V : Type 0 = RunView g.row.D.Denot g.row.W.Denot in
    let i = c.self.inside in
    let old : V = record { plan = i.plan; options = i.options; store = i.store; sink = i.sink; sink_failed = i.sink_failed; fault = i.fault; tale = i.tale.items; begun = i.begun.items; restoring = i.restoring.items; ends_wait = i.ends_wait; known = option_map known_in i.replan } in
    let at = sym c.self.view_is in
    let answer = subst (λ (v : V). MayDo v (next.Settle c.args.task)) at c.requires.answer in
    let now = some_known (IsUpToDate i.plan i.store.rows) (option_map known_in i.replan) answer.known answer.is_known c.self.invariant.3.current in
    let lt = needed_within (length i.plan.tasks) answer.known.need c.args.task now.need.long answer.may.0.needed in
    let long = c.self.invariant.3.long in
    omega (arith, lt, long, i.begun.ok)

pub push_reserved-requires-in-Err : goal.push_reserved-requires-in-Err
push_reserved-requires-in-Err g c =
    let V : Type 0 = RunView g.row.D.Denot g.row.W.Denot in
    let i = c.self.inside in
    let old : V = record { plan = i.plan; options = i.options; store = i.store; sink = i.sink; sink_failed = i.sink_failed; fault = i.fault; tale = i.tale.items; begun = i.begun.items; restoring = i.restoring.items; ends_wait = i.ends_wait; known = option_map known_in i.replan } in
    let at = sym c.self.view_is in
    let items : length c.reserve.new.self.items ≡ length i.restoring.items = ap (λ (l : List ℕ). length l) c.reserve.ensures.items in
    let spare = c.in_ok-reserve.ensures.ok in
    omega (arith, items, spare, c.reserve.new.self.ok)

pub invariant_of-self-in-Ok-true : goal.invariant_of-self-in-Ok-true
invariant_of-self-in-Ok-true g c =
    let V : Type 0 = RunView g.row.D.Denot g.row.W.Denot in
    let i = c.self.inside in
    let old : V = record { plan = i.plan; options = i.options; store = i.store; sink = i.sink; sink_failed = i.sink_failed; fault = i.fault; tale = i.tale.items; begun = i.begun.items; restoring = i.restoring.items; ends_wait = i.ends_wait; known = option_map known_in i.replan } in
    let at = sym c.self.view_is in
    let none = subst (λ (v : V). v.fault ≡ None) at c.requires.faultless in
    let answer = subst (λ (v : V). MayDo v (next.Settle c.args.task)) at c.requires.answer in
    let now = some_known (IsUpToDate i.plan i.store.rows) (option_map known_in i.replan) answer.known answer.is_known c.self.invariant.3.current in
    let lt = needed_within (length i.plan.tasks) answer.known.need c.args.task now.need.long answer.may.0.needed in
    let long = c.self.invariant.3.long in
    let room = subst (λ (v : V). length v.restoring < v.plan.threads) at c.requires.room in
    let pushed : c.push_reserved.new.self.items ≡ i.restoring.items ++ c.args.task ∷ [] = c.push_reserved.ensures.items ∙ ap (λ (l : List ℕ). l ++ c.args.task ∷ []) c.reserve.ensures.items in
    let few = subst (λ (l : List ℕ). length l ≤ i.plan.threads) (sym pushed) (one_more i.restoring.items c.args.task i.plan.threads room) in
    let among = subst (λ (l : List ℕ). (u : ℕ) → Contains l u → u < length i.plan.tasks) (sym pushed) (more_hands i.restoring.items c.args.task (length i.plan.tasks) c.self.invariant.3.among lt) in
    let store = c.restore_open_in.new.store in
    let begun = slice_set i.begun.items c.args.task (Some avails.Object) in
    let e = c.in-Ok-true.ensures in
    let current = subst (λ (r : List EquivRow). IfSome i.replan (IsCurrent no_meaning (view_of i.plan r))) (sym e.rows) c.self.invariant.2 in (
      c.self.invariant.0,
      c.self.invariant.1,
      current,
      hands_state (g.D.Disk.faults store.disk) (record old { store = store; begun = begun }) c.push_reserved.new.self.items few among
          (state_after (g.D.Disk.faults i.store.disk) (g.D.Disk.faults store.disk) old store begun i.fault i.replan c.self.invariant.3 none e.faultless (length-set i.begun.items c.args.task (Some avails.Object)) (λ no. e.unharmed)
          (subst (λ (f : Option RunFault). IfSome f (IsCause (g.D.Disk.faults store.disk) i.plan store.rows i.sink_failed)) (sym none) tt) current),
    )

pub invariant_of-self-in-Ok-false : goal.invariant_of-self-in-Ok-false
invariant_of-self-in-Ok-false g c =
    let V : Type 0 = RunView g.row.D.Denot g.row.W.Denot in
    let i = c.self.inside in
    let old : V = record { plan = i.plan; options = i.options; store = i.store; sink = i.sink; sink_failed = i.sink_failed; fault = i.fault; tale = i.tale.items; begun = i.begun.items; restoring = i.restoring.items; ends_wait = i.ends_wait; known = option_map known_in i.replan } in
    let at = sym c.self.view_is in
    let none = subst (λ (v : V). v.fault ≡ None) at c.requires.faultless in
    let store = c.restore_open_in.new.store in
    let begun = slice_set (slice_set i.begun.items c.args.task (Some avails.Object)) c.args.task (Some avails.Missing) in
    let long = length-set (slice_set i.begun.items c.args.task (Some avails.Object)) c.args.task (Some avails.Missing) ∙ length-set i.begun.items c.args.task (Some avails.Object) in
    let e = c.in-Ok-false.ensures in
    let few = subst (λ (l : List ℕ). length l ≤ i.plan.threads) (sym c.reserve.ensures.items) c.self.invariant.3.few in
    let among = subst (λ (l : List ℕ). (u : ℕ) → Contains l u → u < length i.plan.tasks) (sym c.reserve.ensures.items) c.self.invariant.3.among in (
      c.self.invariant.0,
      c.self.invariant.1,
      tt,
      hands_state (g.D.Disk.faults store.disk) (record old { store = store; begun = begun; known = None }) c.reserve.new.self.items few among
          (state_after (g.D.Disk.faults i.store.disk) (g.D.Disk.faults store.disk) old store begun i.fault None c.self.invariant.3 none e.faultless long (λ no. e.unharmed)
          (subst (λ (f : Option RunFault). IfSome f (IsCause (g.D.Disk.faults store.disk) i.plan store.rows i.sink_failed)) (sym none) tt) tt),
    )

pub invariant_of-self-in-Err : goal.invariant_of-self-in-Err
invariant_of-self-in-Err g c =
    let V : Type 0 = RunView g.row.D.Denot g.row.W.Denot in
    let i = c.self.inside in
    let old : V = record { plan = i.plan; options = i.options; store = i.store; sink = i.sink; sink_failed = i.sink_failed; fault = i.fault; tale = i.tale.items; begun = i.begun.items; restoring = i.restoring.items; ends_wait = i.ends_wait; known = option_map known_in i.replan } in
    let at = sym c.self.view_is in
    let none = subst (λ (v : V). v.fault ≡ None) at c.requires.faultless in
    let answer = subst (λ (v : V). MayDo v (next.Settle c.args.task)) at c.requires.answer in
    let now = some_known (IsUpToDate i.plan i.store.rows) (option_map known_in i.replan) answer.known answer.is_known c.self.invariant.3.current in
    let lt = needed_within (length i.plan.tasks) answer.known.need c.args.task now.need.long answer.may.0.needed in
    let long = c.self.invariant.3.long in
    let room = subst (λ (v : V). length v.restoring < v.plan.threads) at c.requires.room in
    let pushed : c.push_reserved-in-Err.new.self.items ≡ i.restoring.items ++ c.args.task ∷ [] = c.push_reserved-in-Err.ensures.items ∙ ap (λ (l : List ℕ). l ++ c.args.task ∷ []) c.reserve.ensures.items in
    let few = subst (λ (l : List ℕ). length l ≤ i.plan.threads) (sym pushed) (one_more i.restoring.items c.args.task i.plan.threads room) in
    let among = subst (λ (l : List ℕ). (u : ℕ) → Contains l u → u < length i.plan.tasks) (sym pushed) (more_hands i.restoring.items c.args.task (length i.plan.tasks) c.self.invariant.3.among lt) in
    let store = c.restore_open_in.new.store in
    let begun = slice_set i.begun.items c.args.task (Some avails.Object) in
    let e = c.in-Err.ensures in
    let kept = c.keep.ensures.first none in
    let current = subst (λ (r : List EquivRow). IfSome i.replan (IsCurrent no_meaning (view_of i.plan r))) (sym e.rows) c.self.invariant.2 in (
      c.self.invariant.0,
      c.self.invariant.1,
      current,
      fault_state (g.D.Disk.faults i.store.disk) (g.D.Disk.faults store.disk) old store begun c.push_reserved-in-Err.new.self.items c.keep.new.kept c.self.invariant.3 (subst (λ (f : Option RunFault). IsSome f) (sym kept) refl) (length-set i.begun.items c.args.task (Some avails.Object)) few among
          (subst (λ (r : List EquivRow). IfSome (option_map known_in i.replan) (IsUpToDate i.plan r)) (sym e.rows) c.self.invariant.3.current)
          (subst (λ (f : Option RunFault). IfSome f (IsCause (g.D.Disk.faults store.disk) i.plan store.rows i.sink_failed)) (sym kept) e.cause),
    )

pub returns-in-Ok-true-clause-opens : goal.returns-in-Ok-true-clause-opens
returns-in-Ok-true-clause-opens g c =
    let V : Type 0 = RunView g.row.D.Denot g.row.W.Denot in
    let i = c.self.inside in
    let old : V = record { plan = i.plan; options = i.options; store = i.store; sink = i.sink; sink_failed = i.sink_failed; fault = i.fault; tale = i.tale.items; begun = i.begun.items; restoring = i.restoring.items; ends_wait = i.ends_wait; known = option_map known_in i.replan } in
    let at = sym c.self.view_is in
    let pushed : c.push_reserved.new.self.items ≡ i.restoring.items ++ c.args.task ∷ [] = c.push_reserved.ensures.items ∙ ap (λ (l : List ℕ). l ++ c.args.task ∷ []) c.reserve.ensures.items in
    (ap (λ (v : V). v.tale) c.self.view_is, pushed ∙ ap (λ (v : V). v.restoring ++ c.args.task ∷ []) c.self.view_is)

pub returns-in-Ok-true-clause-run : goal.returns-in-Ok-true-clause-run
returns-in-Ok-true-clause-run g c tells o run =
    let V : Type 0 = RunView g.row.D.Denot g.row.W.Denot in
    let i = c.self.inside in
    let old : V = record { plan = i.plan; options = i.options; store = i.store; sink = i.sink; sink_failed = i.sink_failed; fault = i.fault; tale = i.tale.items; begun = i.begun.items; restoring = i.restoring.items; ends_wait = i.ends_wait; known = option_map known_in i.replan } in
    let at = sym c.self.view_is in
    let none = subst (λ (v : V). v.fault ≡ None) at c.requires.faultless in
    let answer = subst (λ (v : V). MayDo v (next.Settle c.args.task)) at c.requires.answer in
    let now = some_known (IsUpToDate i.plan i.store.rows) (option_map known_in i.replan) answer.known answer.is_known c.self.invariant.3.current in
    let lt = needed_within (length i.plan.tasks) answer.known.need c.args.task now.need.long answer.may.0.needed in
    let long = c.self.invariant.3.long in
    let there = subst (λ (v : V). IfSome v.known (λ k. slice_get k.avail c.args.task ≡ Some avails.Object)) at c.requires.there in
    let object = some_known (λ (k : Known). slice_get k.avail c.args.task ≡ Some avails.Object) (option_map known_in i.replan) answer.known answer.is_known there in
    let before = subst (λ (v : V). IsRun o (seen g.D.Disk.story g.W.Sink.written v)) at run in
    let store = c.restore_open_in.new.store in
    let begun = slice_set i.begun.items c.args.task (Some avails.Object) in
    let begins = begins_at i.begun.items begun c.args.task avails.Object (omega (arith, lt, long)) refl in
    let here = set_here i.begun.items c.args.task (Some avails.Object) (omega (arith, lt, long)) in
    let puts = λ (y : Signed) (is : IsSignedAt i.store.rows i.plan.tasks c.args.task y). told_object g.D.Disk.tells (g.D.Disk.story i.store.disk) (g.D.Disk.story store.disk) i.store.rows y tells (c.in-Ok-true.ensures.puts y is) in
    let pushed : c.push_reserved.new.self.items ≡ i.restoring.items ++ c.args.task ∷ [] = c.push_reserved.ensures.items ∙ ap (λ (l : List ℕ). l ++ c.args.task ∷ []) c.reserve.ensures.items in
    let opens = subst (λ (b : Bool). OnTrue b ((y : Signed) → IsSignedAt i.store.rows i.plan.tasks c.args.task y → OpensRestoring g.D.Disk.tells g.D.Disk.story i.store store y)) c.in-Ok-true.field-0-test c.in-Ok-true.ensures.opens in
    subst (λ (l : List ℕ). IsRun o (seen g.D.Disk.story g.W.Sink.written (record old { store = store; begun = begun; restoring = l }))) (sym pushed)
    (opening_view g.D.Disk.story g.W.Sink.written o old before none c.self.invariant.3.orderly answer.known answer.is_known now c.args.task (answer.may.0, answer.may.1) object (g.met.D.Disk.sound i.store.disk tells) store c.in-Ok-true.ensures.rows begun begins here puts answer.may.2
    (let its = x g.D.Disk.story g.W.Sink.written o old before none c.self.invariant.3.orderly answer.known answer.is_known now c.args.task (answer.may.0, answer.may.1) object (g.met.D.Disk.sound i.store.disk tells) in told_opens g.D.Disk.tells g.D.Disk.story i.store store its.0 tells (opens its.0 its.1)))

pub returns-in-Ok-false-clause-opens : goal.returns-in-Ok-false-clause-opens
returns-in-Ok-false-clause-opens g c =
    let V : Type 0 = RunView g.row.D.Denot g.row.W.Denot in
    let i = c.self.inside in
    let answer = c.requires.answer in (
      record {
        plan = ap (λ (v : V). v.plan) c.self.view_is;
        options = ap (λ (v : V). v.options) c.self.view_is;
        sink = ap (λ (v : V). v.sink) c.self.view_is;
        sink_failed = ap (λ (v : V). v.sink_failed) c.self.view_is;
        fault = subst (λ (v : V). v.fault ≡ None) (sym c.self.view_is) c.requires.faultless;
        tale = ap (λ (v : V). v.tale) c.self.view_is;
        restoring = c.reserve.ensures.items ∙ ap (λ (v : V). v.restoring) c.self.view_is;
        ends_wait = ap (λ (v : V). v.ends_wait) c.self.view_is;
      },
      record {
        task = c.args.task;
        known = answer.known;
        is_known = answer.is_known;
        needed = answer.may.0.needed;
        object = some_known (λ (k : Known). slice_get k.avail c.args.task ≡ Some avails.Object) c.args.self.now.known answer.known answer.is_known c.requires.there;
        begun = subst (λ (v : V). slice_set (slice_set i.begun.items c.args.task (Some avails.Object)) c.args.task (Some avails.Missing) ≡ slice_set v.begun c.args.task (Some avails.Missing)) c.self.view_is (set_again i.begun.items c.args.task (Some avails.Object) (Some avails.Missing));
        unknown = refl;
      },
    )

pub returns-in-Ok-false-clause-run : goal.returns-in-Ok-false-clause-run
returns-in-Ok-false-clause-run g c tells o run =
    let V : Type 0 = RunView g.row.D.Denot g.row.W.Denot in
    let i = c.self.inside in
    let old : V = record { plan = i.plan; options = i.options; store = i.store; sink = i.sink; sink_failed = i.sink_failed; fault = i.fault; tale = i.tale.items; begun = i.begun.items; restoring = i.restoring.items; ends_wait = i.ends_wait; known = option_map known_in i.replan } in
    let at = sym c.self.view_is in
    let none = subst (λ (v : V). v.fault ≡ None) at c.requires.faultless in
    let answer = subst (λ (v : V). MayDo v (next.Settle c.args.task)) at c.requires.answer in
    let now = some_known (IsUpToDate i.plan i.store.rows) (option_map known_in i.replan) answer.known answer.is_known c.self.invariant.3.current in
    let lt = needed_within (length i.plan.tasks) answer.known.need c.args.task now.need.long answer.may.0.needed in
    let long = c.self.invariant.3.long in
    let there = subst (λ (v : V). IfSome v.known (λ k. slice_get k.avail c.args.task ≡ Some avails.Object)) at c.requires.there in
    let object = some_known (λ (k : Known). slice_get k.avail c.args.task ≡ Some avails.Object) (option_map known_in i.replan) answer.known answer.is_known there in
    let before = subst (λ (v : V). IsRun o (seen g.D.Disk.story g.W.Sink.written v)) at run in
    let gone = subst (λ (b : Bool). OnFalse b ((y : Signed) → IsSignedAt i.store.rows i.plan.tasks c.args.task y → HasNoObject (g.D.Disk.story i.store.disk).held i.store.rows y)) c.in-Ok-false.field-0-test (c.in-Ok-false.ensures.gone tells) in
    never_gone g.D.Disk.story g.W.Sink.written o old before none c.self.invariant.3.orderly answer.known answer.is_known now c.args.task (answer.may.0, answer.may.1) object (g.met.D.Disk.sound i.store.disk tells) _ gone

pub returns-in-Err-clause-opens : goal.returns-in-Err-clause-opens
returns-in-Err-clause-opens g c =
    let V : Type 0 = RunView g.row.D.Denot g.row.W.Denot in
    let faultless : c.self.inside.fault ≡ None = subst (λ (v : V). v.fault ≡ None) (sym c.self.view_is) c.requires.faultless in
    (ap (λ (v : V). v.tale) c.self.view_is, subst (λ (f : Option RunFault). IsSome f) (sym (c.keep.ensures.first faultless)) refl)

pub returns-in-Err-clause-steady : goal.returns-in-Err-clause-steady
returns-in-Err-clause-steady g c held =
    let V : Type 0 = RunView g.row.D.Denot g.row.W.Denot in
    let faultless : c.self.inside.fault ≡ None = subst (λ (v : V). v.fault ≡ None) (sym c.self.view_is) c.requires.faultless in
    c.keep.ensures.steady c.in-Err.ensures.steady (steady_none c.self.inside.fault faultless)

pub returns-in-Err-clause-run : goal.returns-in-Err-clause-run
returns-in-Err-clause-run g c tells o run =
    let V : Type 0 = RunView g.row.D.Denot g.row.W.Denot in
    let i = c.self.inside in
    let old : V = record { plan = i.plan; options = i.options; store = i.store; sink = i.sink; sink_failed = i.sink_failed; fault = i.fault; tale = i.tale.items; begun = i.begun.items; restoring = i.restoring.items; ends_wait = i.ends_wait; known = option_map known_in i.replan } in
    let at = sym c.self.view_is in
    let none = subst (λ (v : V). v.fault ≡ None) at c.requires.faultless in
    let answer = subst (λ (v : V). MayDo v (next.Settle c.args.task)) at c.requires.answer in
    let now = some_known (IsUpToDate i.plan i.store.rows) (option_map known_in i.replan) answer.known answer.is_known c.self.invariant.3.current in
    let lt = needed_within (length i.plan.tasks) answer.known.need c.args.task now.need.long answer.may.0.needed in
    let long = c.self.invariant.3.long in
    let there = subst (λ (v : V). IfSome v.known (λ k. slice_get k.avail c.args.task ≡ Some avails.Object)) at c.requires.there in
    let object = some_known (λ (k : Known). slice_get k.avail c.args.task ≡ Some avails.Object) (option_map known_in i.replan) answer.known answer.is_known there in
    let before = subst (λ (v : V). IsRun o (seen g.D.Disk.story g.W.Sink.written v)) at run in
    let store = c.restore_open_in.new.store in
    let begun = slice_set i.begun.items c.args.task (Some avails.Object) in
    let begins = begins_at i.begun.items begun c.args.task avails.Object (omega (arith, lt, long)) refl in
    let here = set_here i.begun.items c.args.task (Some avails.Object) (omega (arith, lt, long)) in
    let puts = λ (y : Signed) (is : IsSignedAt i.store.rows i.plan.tasks c.args.task y). told_object g.D.Disk.tells (g.D.Disk.story i.store.disk) (g.D.Disk.story store.disk) i.store.rows y tells (c.in-Err.ensures.puts y is) in
    let pushed : c.push_reserved-in-Err.new.self.items ≡ i.restoring.items ++ c.args.task ∷ [] = c.push_reserved-in-Err.ensures.items ∙ ap (λ (l : List ℕ). l ++ c.args.task ∷ []) c.reserve.ensures.items in
    subst (λ (l : List ℕ). IsRun o (seen g.D.Disk.story g.W.Sink.written (record old { store = store; begun = begun; restoring = l; fault = c.keep.new.kept }))) (sym pushed)
    (subst (λ (f : Option RunFault). IsRun o (seen g.D.Disk.story g.W.Sink.written (record old { store = store; begun = begun; restoring = i.restoring.items ++ c.args.task ∷ []; fault = f }))) (sym (c.keep.ensures.first none))
    (opening_fault g.D.Disk.story g.W.Sink.written o old before none c.self.invariant.3.orderly answer.known answer.is_known now c.args.task (answer.may.0, answer.may.1) object (g.met.D.Disk.sound i.store.disk tells) store c.in-Err.ensures.rows begun begins here puts (ends.Store c.in-Err.fault)))
