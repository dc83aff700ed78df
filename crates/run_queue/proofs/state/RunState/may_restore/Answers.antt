use Rattle.std.proofs.Common.{◌≡◌, ◌∙◌, ap, subst, Bool, List, length, Some}
use Rattle.std.specs.List.{slice_get}
use Rattle.std.specs.Option.{option_map}
use Rattle.meta_model.specs.declared.event.Avail.{Avail}
use Rattle.meta_model.specs.declared.event.Avail.TheVariants as avails
use Rattle.tale_model.specs.declared.fate.Fate.{Fate}
use Rattle.run_core.specs.Choice.{MayAnswer}
use Rattle.run_core.specs.declared.next.Next.TheVariants as next
use Rattle.run_core.proofs.Steps.{count_told}
use Rattle.run_queue.specs.Seen.{RunView, known_in}
use Rattle.run_queue.specs.Turns.{MayRestore}
use Rattle.run_queue.proofs.state.RunState.may_restore.Goals as goal

pub may_settle-requires-clause-fates : goal.may_settle-requires-clause-fates
may_settle-requires-clause-fates g c = ap (λ (l : List Fate). length l) c.self.invariant.1 ∙ count_told (length c.self.inside.plan.tasks) c.self.inside.tale.items

pub returns-then-is_object : goal.returns-then-is_object
returns-then-is_object g c is =
    let V : Type 0 = RunView g.row.D.Denot g.row.W.Denot in
    let i = c.self.inside in
    let k = known_in c.in-Some.known in
    let by_need = subst (λ (l : List Bool). MayAnswer i.options i.plan.tasks l c.avail-then-is_object.result.now i.board (next.Settle c.args.task)) c.need.ensures (c.may_settle.ensures.settles is) in
    let by_avail = subst (λ (l : List Avail). MayAnswer i.options i.plan.tasks k.need l i.board (next.Settle c.args.task)) c.avail-then-is_object.ensures by_need in
    let by_fates = subst (λ (l : List Fate). MayAnswer i.options i.plan.tasks k.need k.avail l (next.Settle c.args.task)) c.self.invariant.1 by_avail in
    let object = subst (λ (l : List Avail). slice_get l c.args.task ≡ Some avails.Object) c.avail.ensures (c.is_object.ensures c.if-is_object.true) in
    subst (λ (v : V). MayRestore v c.args.task) c.self.view_is (record { known = k; is_known = ap (option_map known_in) c.in-Some.is; may = by_fates; object = object })
