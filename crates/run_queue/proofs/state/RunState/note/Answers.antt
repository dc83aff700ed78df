use Rattle.std.proofs.Common.{◌≡◌, ◌∙◌, sym, ap, subst, ℕ, ◌<◌, List, ◌++◌, ◌∷◌, [], length, true, false, None, arith}
use Rattle.std.proofs.Common.{vec_capacity}
use Rattle.meta_model.specs.declared.event.Logged.{Logged}
use Rattle.tale_model.specs.declared.fate.Fate.{Fate}
use Rattle.tale_model.specs.Fates.{fate_at, fates_by, fates_told, is_running, task_of}
use Rattle.run_core.specs.History.{IsInOrder}
use Rattle.run_core.proofs.Steps.{count_told}
use Rattle.run_model.specs.Causes.{is_fault_break}
use Rattle.run_queue.specs.Keeps.{HasRoom, IsState}
use Rattle.run_queue.specs.Seen.{RunView}
use Rattle.run_queue.specs.Turns.{fates_of}
use Rattle.run_queue.proofs.Notes.{fates_next, noted_room, noted_state, room_now, task_within}
use Rattle.run_queue.proofs.state.RunState.note.Goals as goal

pub push_reserved-requires : goal.push_reserved-requires
push_reserved-requires g c =
    let V : Type 0 = RunView g.row.D.Denot g.row.W.Denot in
    let runs = subst (λ (v : V). is_running (fate_at (fates_of v) (task_of c.args.event)) ≡ true) (sym c.self.view_is) c.requires.runs in
    let room = room_now (vec_capacity c.self.inside.tale) (length c.self.inside.tale.items) (fates_told (length c.self.inside.plan.tasks) c.self.inside.tale.items) (task_of c.args.event) runs c.self.invariant.0 in
    omega (arith, room, c.self.inside.tale.ok)

pub invariant_of-self : goal.invariant_of-self
invariant_of-self g c =
    let V : Type 0 = RunView g.row.D.Denot g.row.W.Denot in
    let order = subst (λ (v : V). IsInOrder v.plan.tasks (fates_of v) c.args.number c.args.event) (sym c.self.view_is) c.requires.order in
    let runs = subst (λ (v : V). is_running (fate_at (fates_of v) (task_of c.args.event)) ≡ true) (sym c.self.view_is) c.requires.runs in
    let tasks = c.self.inside.plan.tasks in
    let tale = c.self.inside.tale.items in
    let entry : Logged = record { event = c.args.event; seat = c.args.number; moment = c.moment.result } in
    let lt = task_within (fates_told (length tasks) tale) c.args.event order.can in
    let room : HasRoom (vec_capacity c.push_reserved.new.self) (length (tale ++ entry ∷ [])) (fates_told (length tasks) (tale ++ entry ∷ [])) =
    subst (λ (n : ℕ). HasRoom n (length (tale ++ entry ∷ [])) (fates_told (length tasks) (tale ++ entry ∷ []))) (sym c.push_reserved.ensures.capacity) (noted_room (vec_capacity c.self.inside.tale) tasks tale entry lt runs c.requires.rests c.self.invariant.0) in (
      subst (λ (l : List Logged). HasRoom (vec_capacity c.push_reserved.new.self) (length l) (fates_told (length tasks) l)) (sym c.push_reserved.ensures.items) room,
      c.mark.ensures ∙ ap (λ (f : List Fate). fates_by f c.args.event) c.self.invariant.1 ∙ sym (fates_next tasks tale entry) ∙ ap (fates_told (length tasks)) (sym c.push_reserved.ensures.items),
      c.self.invariant.2,
      subst (λ (l : List Logged). IsState (g.D.Disk.faults c.self.inside.store.disk) (record {
        plan = c.self.inside.plan;
        options = c.self.inside.options;
        store = c.self.inside.store;
        sink = c.self.inside.sink;
        sink_failed = c.self.inside.sink_failed;
        fault = c.self.inside.fault;
        tale = l;
        begun = c.self.inside.begun.items;
        restoring = c.self.inside.restoring.items;
        ends_wait = c.self.inside.ends_wait;
        known = Rattle.std.specs.Option.option_map Rattle.run_queue.specs.Seen.known_in c.self.inside.replan;
      })) (sym c.push_reserved.ensures.items)
          (noted_state (g.D.Disk.faults c.self.inside.store.disk) _ entry c.self.invariant.3 order (λ none. subst (λ (v : V). v.fault ≡ None → is_fault_break c.args.event ≡ false) (sym c.self.view_is) c.requires.unbroken none)),
    )

pub say-requires : goal.say-requires
say-requires g c =
    let V : Type 0 = RunView g.row.D.Denot g.row.W.Denot in
    let order = subst (λ (v : V). IsInOrder v.plan.tasks (fates_of v) c.args.number c.args.event) (sym c.self.view_is) c.requires.order in
    let tasks = c.self.inside.plan.tasks in
    let tale = c.self.inside.tale.items in
    subst (λ (n : ℕ). task_of c.args.event < n) (count_told (length tasks) tale) (task_within (fates_told (length tasks) tale) c.args.event order.can)
