use Rattle.std.proofs.lemmas.List.{take_all}
use Rattle.std.proofs.Common.{◌∙◌, ap, ◌++◌, ◌∷◌, [], map, take, append_assoc}
use Rattle.datastore.specs.Orders.{with_order}
use Rattle.datastore.proofs.Orders.{map_turn}
use Rattle.datastore.proofs.tasks.push_tasks.Goals as goal

pub loop-task-preserved : goal.loop-task-preserved
loop-task-preserved c = λ list orders set.
    let xs = c.args.all.now in
    let i = c.loop-task.task-index in
    let x = c.task-item.result in
    let before = c.args.made.now.items in
    c.in_ok-push_task.ensures list orders set ∙ ap (λ m. m ++ with_order list x ∷ []) (c.loop-task.invariant list orders set)
    ∙ append_assoc before (map (with_order list) (take i xs)) (with_order list x ∷ [])
    ∙ ap (λ m. before ++ m) (map_turn (with_order list) xs i x c.task-item.is c.loop-task-test.true)

pub returns : goal.returns
returns c = rw (take_all _ _ c.loop-task-test.false) at c.loop-task.invariant
