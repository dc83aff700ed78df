use Rattle.std.proofs.Common.{◌∙◌}
use Rattle.datastore.proofs.Tasking.{task_lines_are, order_lines_are}
use Rattle.datastore.proofs.tasks.ordered_tasks.Goals as goal

pub returns : goal.returns
returns c = λ list e.
    let lines = c.args.lines.now in
    c.with_orders.ensures list (λ a b. c.in_ok-orders.ensures a b ∙ order_lines_are list lines e a b) (λ t. c.in_ok-set.ensures t ∙ task_lines_are list lines e t)
