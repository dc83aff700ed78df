use Rattle.std.proofs.lemmas.List.{take_all}
use Rattle.std.proofs.Common.{ℕ, List}
use Rattle.std.specs.List.{filter_map}
use Rattle.task_graph.specs.Table.{number_of_task}
use Rattle.task_graph.proofs.Resolving.{joined_more}
use Rattle.task_graph.proofs.context.push_tasks.Goals as goal

pub loop-name-preserved : goal.loop-name-preserved
loop-name-preserved c =
    joined_more (λ (name : List ℕ). filter_map (λ r. number_of_task c.args.table.now (r, name)) c.args.recipes.now) c.args.names.now c.loop-name.name-index c.name-item.result c.as_str.result.now c.args.out.now.items c.loop-name.out.items c.push_task.new.out.items
    c.loop-name-test.true c.name-item.is c.as_str.ensures c.loop-name.invariant c.in_ok-push_task.ensures

pub returns : goal.returns
returns c = rw (take_all _ _ c.loop-name-test.false) at c.loop-name.invariant
