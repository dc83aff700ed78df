use Rattle.std.proofs.Common.{◌≡◌, ◌∙◌, ap, sym, Some, None, is_some}
use Rattle.std.specs.BTreeMap.{get_by_text}
use Rattle.meta_model.specs.Tasks.{comes_after, task_names}
use Rattle.datastore.specs.Orders.{is_noted}
use Rattle.datastore.proofs.Orders.{order_is, none_is}
use Rattle.datastore.proofs.order.order_of.Goals as goal

pub returns-in_ok-tasks_among-in-Some : goal.returns-in_ok-tasks_among-in-Some
returns-in_ok-tasks_among-in-Some c = λ list orders tasks.
    let found : get_by_text c.args.orders.now c.args.task.now ≡ Some c.in-Some.set.now = sym c.get.ensures.value ∙ rw c.in-Some.is in
    c.in_ok-tasks_among-in-Some.ensures.names
    ∙ order_is list c.args.task.now c.in-Some.set.now (λ t. is_some (get_by_text c.args.all.now t)) c.in_ok-tasks_among-in-Some.ensures.ordered tasks
    (λ b. ap (λ o. is_noted o b) (sym found) ∙ orders c.args.task.now b)

pub returns-in-None : goal.returns-in-None
returns-in-None c = λ list orders tasks.
    let found : get_by_text c.args.orders.now c.args.task.now ≡ None = sym c.get.ensures.value ∙ rw c.in-None.is in
    c.new.ensures ∙ none_is (comes_after list c.args.task.now) (task_names list) (λ b. sym (orders c.args.task.now b) ∙ ap (λ o. is_noted o b) found)
