use Rattle.std.proofs.Common.{◌∙◌, ap, sym, ◌++◌, filter, fold, take}
use Rattle.std.proofs.lemmas.List.Elements.{filter-append}
use Rattle.meta_model.specs.Frozen.{is_task_line}
use Rattle.datastore.specs.Parts.{moved_with}
use Rattle.datastore.proofs.Retold.{tasks_moved, past_turn}
use Rattle.datastore.proofs.store.push_past.Goals as goal

pub loop-part-preserved : goal.loop-part-preserved
loop-part-preserved c = λ list e.
    let xs = c.args.past.now in
    let i = c.loop-part.part-index in
    let x = c.part-item.result in
    let before = fold moved_with list (take i xs) in
    c.in_ok-push_tasks.ensures ∙ ap (λ l. l ++ filter is_task_line c.as_slice.result.now) (c.loop-part.invariant list e) ∙ ap (λ l. filter is_task_line before ++ filter is_task_line l) c.as_slice.ensures.value
    ∙ sym (filter-append is_task_line before x.items) ∙ sym (tasks_moved (before ++ x.items)) ∙ ap (filter is_task_line) (past_turn list xs i x c.part-item.is c.loop-part-test.true)
