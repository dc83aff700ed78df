use Rattle.std.proofs.Common.{◌≡◌, ◌++◌, take}
use Rattle.std.specs.List.{filter_map}
use Rattle.task_graph.specs.Table.{number_of_task}
use Rattle.task_graph.proofs.context.push_task.Given as goal

abbrev pub invariant-loop-recipe : goal.invariant-loop-recipe
invariant-loop-recipe l = l.out.items ≡ l.fn.out.items ++ filter_map (λ r. number_of_task l.table (r, l.name)) (take l.recipe-index l.recipes)
