use Rattle.std.proofs.Common.{ℕ, get_or}
use Rattle.std.proofs.lemmas.List.{get_or_default, take_all}
use Rattle.task_graph.specs.Table.{number_of_task}
use Rattle.task_graph.proofs.Resolving.{mapped_more}
use Rattle.task_graph.proofs.context.push_task.Goals as goal

pub loop-recipe-preserved : goal.loop-recipe-preserved
loop-recipe-preserved c =
    let recipe : ℕ = get_or c.args.recipes.now c.loop-recipe.recipe-index 0 in
    mapped_more (λ r. number_of_task c.args.table.now (r, c.args.name.now)) c.args.recipes.now c.loop-recipe.recipe-index recipe c.args.out.now.items c.loop-recipe.out.items c.push_found.new.out.items c.find.result c.loop-recipe-test.true
    (get_or_default c.args.recipes.now c.loop-recipe.recipe-index 0 recipe c.loop-recipe-test.true) c.find.ensures c.loop-recipe.invariant c.in_ok-push_found.ensures

pub returns : goal.returns
returns c = rw (take_all _ _ c.loop-recipe-test.false) at c.loop-recipe.invariant
