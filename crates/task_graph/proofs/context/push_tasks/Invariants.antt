use Rattle.std.proofs.Common.{◌≡◌, ◌++◌, take}
use Rattle.task_graph.specs.Context.{numbers_of_tasks}
use Rattle.task_graph.proofs.context.push_tasks.Given as goal

abbrev pub invariant-loop-name : goal.invariant-loop-name
invariant-loop-name l = l.out.items ≡ l.fn.out.items ++ numbers_of_tasks l.table l.recipes (take l.name-index l.names)
