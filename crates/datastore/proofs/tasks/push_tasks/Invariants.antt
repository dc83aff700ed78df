use Rattle.std.proofs.Common.{◌≡◌, ◌++◌, ℕ, List, map, take, is_some}
use Rattle.std.specs.BTreeMap.{get_by_text}
use Rattle.meta_model.specs.declared.entry.EntryLine.{EntryLine}
use Rattle.meta_model.specs.Tasks.{is_task}
use Rattle.datastore.specs.Orders.{IsOrderOf, with_order}
use Rattle.datastore.proofs.tasks.push_tasks.Given as goal

abbrev pub invariant-loop-task : goal.invariant-loop-task
invariant-loop-task l = (list : List EntryLine) → IsOrderOf list l.orders → ((t : List ℕ) → is_some (get_by_text l.set t) ≡ is_task list t) → l.made.items ≡ l.fn.made.items ++ map (with_order list) (take l.task-index l.all)
