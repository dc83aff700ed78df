use Rattle.std.proofs.Common.{◌≡◌, ◌∙◌, sym, ap, subst, ℕ, ◌<◌, List, ◌++◌, ◌∷◌, [], length, false, arith}
use Rattle.std.proofs.Common.{vec_capacity}
use Rattle.meta_model.specs.declared.event.Logged.{Logged}
use Rattle.tale_model.specs.declared.fate.Fate.{Fate}
use Rattle.tale_model.specs.Fates.{fate_at, fates_by, fates_told, is_running, task_of}
use Rattle.run_core.specs.Fates.{running_count}
use Rattle.run_core.specs.History.{IsInOrder}
use Rattle.run_core.proofs.Steps.{count_told}
use Rattle.run_queue.specs.Keeps.{HasRoom, IsState}
use Rattle.run_queue.specs.Seen.{RunView}
use Rattle.run_queue.specs.Turns.{fates_of}
use Rattle.run_queue.proofs.Causing.{waiting_unbroken}
use Rattle.run_queue.proofs.Notes.{behind_room, fates_next, noted_state, task_within}
use Rattle.run_queue.proofs.state.RunState.note_waiting.Goals as goal

pub invariant_of-self-2 : goal.invariant_of-self-2
invariant_of-self-2 g c =
    let V : Type 0 = RunView g.row.D.Denot g.row.W.Denot in
    let order = subst (λ (v : V). IsInOrder v.plan.tasks (fates_of v) c.args.number c.args.event) (sym c.self.view_is) c.requires.order in
    let rests = subst (λ (v : V). is_running (fate_at (fates_of v) (task_of c.args.event)) ≡ false) (sym c.self.view_is) c.requires.waits in
    let tasks = c.self.inside.plan.tasks in
    let tale = c.self.inside.tale.items in
    let entry : Logged = record { event = c.args.event; seat = c.args.number; moment = c.moment-moment.result } in
    let lt = task_within (fates_told (length tasks) tale) c.args.event order.can in
    let pushed : c.push_reserved.new.self.items ≡ tale ++ entry ∷ [] = c.push_reserved.ensures.items ∙ ap (λ (l : List Logged). l ++ entry ∷ []) c.reserve.ensures.items in
    let runs : c.running-more.result ≡ running_count (fates_told (length tasks) tale) = c.running-more.ensures ∙ ap (λ (l : List Fate). running_count l) c.self.invariant.1 in
    let items : length c.reserve.new.self.items ≡ length tale = ap (λ (l : List Logged). length l) c.reserve.ensures.items in
    let spare = c.in_ok-reserve.ensures.ok in
    let room : HasRoom (vec_capacity c.push_reserved.new.self) (length (tale ++ entry ∷ [])) (fates_told (length tasks) (tale ++ entry ∷ [])) =
    subst (λ (n : ℕ). HasRoom n (length (tale ++ entry ∷ [])) (fates_told (length tasks) (tale ++ entry ∷ []))) (sym c.push_reserved.ensures.capacity)
    (behind_room (vec_capacity c.reserve.new.self) tasks tale entry lt rests (omega (arith, runs, items, spare, c.reserve.new.self.ok))) in (
      subst (λ (l : List Logged). HasRoom (vec_capacity c.push_reserved.new.self) (length l) (fates_told (length tasks) l)) (sym pushed) room,
      c.mark.ensures ∙ ap (λ (f : List Fate). fates_by f c.args.event) c.self.invariant.1 ∙ sym (fates_next tasks tale entry) ∙ ap (fates_told (length tasks)) (sym pushed),
      c.self.invariant.2,
      subst (λ (l : List Logged). IsState (g.D.Disk.faults c.self.inside.store.disk) (record {
        plan = c.self.inside.plan;
        options = c.self.inside.options;
        store = c.self.inside.store;
        sink = c.self.inside.sink;
        sink_failed = c.self.inside.sink_failed;
        fault = c.self.inside.fault;
        tale = l;
        begun = c.self.inside.begun.items;
        restoring = c.self.inside.restoring.items;
        ends_wait = c.self.inside.ends_wait;
        known = Rattle.std.specs.Option.option_map Rattle.run_queue.specs.Seen.known_in c.self.inside.replan;
      })) (sym pushed)
          (noted_state (g.D.Disk.faults c.self.inside.store.disk) _ entry c.self.invariant.3 order (λ none. waiting_unbroken (fates_told (length tasks) tale) c.args.event order.can rests)),
    )

pub say-requires : goal.say-requires
say-requires g c =
    let V : Type 0 = RunView g.row.D.Denot g.row.W.Denot in
    let order = subst (λ (v : V). IsInOrder v.plan.tasks (fates_of v) c.args.number c.args.event) (sym c.self.view_is) c.requires.order in
    let tasks = c.self.inside.plan.tasks in
    let tale = c.self.inside.tale.items in
    subst (λ (n : ℕ). task_of c.args.event < n) (count_told (length tasks) tale) (task_within (fates_told (length tasks) tale) c.args.event order.can)
