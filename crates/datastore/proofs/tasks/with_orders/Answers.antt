use Rattle.std.proofs.Common.{◌∙◌, ap, ◌++◌, map}
use Rattle.datastore.specs.Orders.{with_order}
use Rattle.datastore.proofs.Tasking.{tasks_are}
use Rattle.datastore.proofs.tasks.with_orders.Goals as goal

pub returns : goal.returns
returns c = λ list orders set.
    c.in_ok-push_tasks.ensures list orders set ∙ ap (λ m. m ++ map (with_order list) c.as_slice.result.now) c.new-made.ensures.items
    ∙ ap (map (with_order list)) (c.as_slice.ensures ∙ c.in_ok-all.ensures.names ∙ tasks_are list c.args.set.now c.in_ok-all.ensures.ordered set)
