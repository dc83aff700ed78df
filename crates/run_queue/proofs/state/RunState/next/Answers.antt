use Rattle.std.proofs.Common.{◌∙◌, ap, subst, ℕ, Bool, List, length}
use Rattle.std.specs.Option.{option_map}
use Rattle.meta_model.specs.declared.event.Avail.{Avail}
use Rattle.tale_model.specs.declared.fate.Fate.{Fate}
use Rattle.run_core.specs.Choice.{MayAnswerBeside}
use Rattle.tale_model.specs.Fates.{fates_told}
use Rattle.run_core.proofs.Steps.{count_told}
use Rattle.run_queue.specs.Seen.{RunView, known_in}
use Rattle.run_queue.specs.Turns.{MayDo}
use Rattle.run_queue.proofs.Known.{sound_ordered}
use Rattle.run_queue.proofs.state.RunState.next.Goals as goal

pub next_beside-requires-clause-ordered : goal.next_beside-requires-clause-ordered
next_beside-requires-clause-ordered g c = sound_ordered c.self.inside.plan c.self.invariant.3.sound

pub next_beside-requires-clause-fates : goal.next_beside-requires-clause-fates
next_beside-requires-clause-fates g c = ap (λ (l : List Fate). length l) c.self.invariant.1 ∙ count_told (length c.self.inside.plan.tasks) c.self.inside.tale.items

pub returns-in-Some : goal.returns-in-Some
returns-in-Some g c =
    let V : Type 0 = RunView g.row.D.Denot g.row.W.Denot in
    let i = c.self.inside in
    let k = known_in c.in-Some.known in
    let by_need = subst (λ (l : List Bool). MayAnswerBeside i.options i.plan.tasks l c.avail.result.now i.board c.as_slice.result.now c.next_beside.result) c.need.ensures c.next_beside.ensures.answer in
    let by_avail = subst (λ (l : List Avail). MayAnswerBeside i.options i.plan.tasks k.need l i.board c.as_slice.result.now c.next_beside.result) c.avail.ensures by_need in
    let by_fates = subst (λ (l : List Fate). MayAnswerBeside i.options i.plan.tasks k.need k.avail l c.as_slice.result.now c.next_beside.result) c.self.invariant.1 by_avail in
    let by_hand = subst (λ (l : List ℕ). MayAnswerBeside i.options i.plan.tasks k.need k.avail (fates_told (length i.plan.tasks) i.tale.items) l c.next_beside.result) c.as_slice.ensures.value by_fates in
    subst (λ (v : V). MayDo v c.next_beside.result) c.self.view_is (record { known = k; is_known = ap (option_map known_in) c.in-Some.is; may = by_hand })
