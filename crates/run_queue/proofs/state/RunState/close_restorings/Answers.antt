use Rattle.std.proofs.Common.{◌∙◌, sym, ap, subst, refl, arith, vec_len, inl, inr}
use Rattle.std.specs.Prelude.{IsSome, Option}
use Rattle.std.specs.Option.{option_map}
use Rattle.run_queue.specs.declared.fault.RunFault.{RunFault}
use Rattle.run_queue.specs.Keeps.{IsRun}
use Rattle.run_queue.specs.Seen.{RunView, known_in, seen}
use Rattle.run_queue.specs.Turns.{AreHandsFree}
use Rattle.run_queue.proofs.Concluding.{none_kept}
use Rattle.run_queue.proofs.Hands.{some_by}
use Rattle.run_queue.proofs.Restored.{stopped_view}
use Rattle.run_queue.proofs.States.{fault_state, memory_cause, memory_kept}
use Rattle.run_queue.proofs.state.RunState.close_restorings.Goals as goal

pub invariant_of-self : goal.invariant_of-self
invariant_of-self g c =
    let i = c.self.inside in
    let kept = memory_kept i.fault c.keep.new.kept c.keep.ensures.first c.keep.ensures.later in (
      c.self.invariant.0,
      c.self.invariant.1,
      c.self.invariant.2,
      fault_state (g.D.Disk.faults i.store.disk) (g.D.Disk.faults i.store.disk) _ i.store i.begun.items i.restoring.items c.keep.new.kept c.self.invariant.3 kept refl c.self.invariant.3.few c.self.invariant.3.among c.self.invariant.3.current
          (memory_cause i.fault c.keep.new.kept c.keep.ensures.first c.keep.ensures.later (g.D.Disk.faults i.store.disk) i.plan i.store.rows i.sink_failed c.self.invariant.3.cause),
    )

pub returns-clause-free : goal.returns-clause-free
returns-clause-free g c = inr (memory_kept c.self.inside.fault c.keep.new.kept c.keep.ensures.first c.keep.ensures.later)

pub returns-clause-kept : goal.returns-clause-kept
returns-clause-kept g c free =
    let V : Type 0 = RunView g.row.D.Denot g.row.W.Denot in
    let i = c.self.inside in
    let old : V = record { plan = i.plan; options = i.options; store = i.store; sink = i.sink; sink_failed = i.sink_failed; fault = i.fault; tale = i.tale.items; begun = i.begun.items; restoring = i.restoring.items; ends_wait = i.ends_wait; known = option_map known_in i.replan } in
    let ok = i.restoring.ok in
    let some = some_by i.restoring.items (vec_len i.restoring) c.is_empty.result (omega (arith, ok)) c.is_empty.ensures c.if-is_empty.false in
    let was : IsSome i.fault = elim (subst (λ (v : V). AreHandsFree v) (sym c.self.view_is) free) [ inl empty ↦ absurd (some empty) | inr kept ↦ kept ] in
    ap (λ (f : Option RunFault). record old { fault = f }) (c.keep.ensures.later was) ∙ c.self.view_is

pub returns-clause-same : goal.returns-clause-same
returns-clause-same g c =
    let V : Type 0 = RunView g.row.D.Denot g.row.W.Denot in
    ap (λ (v : V). record v { fault = c.keep.new.kept }) c.self.view_is

pub returns-clause-run : goal.returns-clause-run
returns-clause-run g c tells o run =
    let V : Type 0 = RunView g.row.D.Denot g.row.W.Denot in
    let i = c.self.inside in
    let old : V = record { plan = i.plan; options = i.options; store = i.store; sink = i.sink; sink_failed = i.sink_failed; fault = i.fault; tale = i.tale.items; begun = i.begun.items; restoring = i.restoring.items; ends_wait = i.ends_wait; known = option_map known_in i.replan } in
    stopped_view g.D.Disk.story g.W.Sink.written o old c.keep.new.kept (λ none. absurd (none_kept c.keep.new.kept none (memory_kept i.fault c.keep.new.kept c.keep.ensures.first c.keep.ensures.later)))
    (subst (λ (v : V). IsRun o (seen g.D.Disk.story g.W.Sink.written v)) (sym c.self.view_is) run)
