use Rattle.task_graph.proofs.Refusals.{lacks_to_run}
use Rattle.task_graph.proofs.lacking.refuse_running.Goals as goal

pub returns-in-Some : goal.returns-in-Some
returns-in-Some c = lacks_to_run c.args.facts.now c.args.recipe.now c.as_slice-package-items.result.now c.loop-package.package-index c.package-item.result c.as_slice.result.now c.in-Some.name.now c.as_str.result.now c.as_slice-package-items.ensures c.loop-package-test.true c.package-item.is
    c.as_slice.ensures c.in-Some.ensures.among c.as_str.ensures c.refuse_runtime_name.result c.refuse_runtime_name.ensures
