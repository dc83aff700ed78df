use Rattle.std.proofs.Common.{ap, arith, length}
use Rattle.std.proofs.lemmas.List.{length_push}
use Rattle.task_graph.proofs.Resolving.{needed_more}
use Rattle.task_graph.proofs.needed.needed_of.Goals as goal

pub loop-recipe-preserved : goal.loop-recipe-preserved
loop-recipe-preserved c = record {
  long = omega (arith, ap length c.in_ok-push.ensures.items, length_push c.loop-recipe.all.items (record { building = c.in_ok-building.building; running = c.in_ok-running.running }), c.loop-recipe.invariant.long);
  each = needed_more c.args.facts.now c.as_slice-recipe-items.result.now c.loop-recipe.all.items c.push.new.self.items c.loop-recipe.recipe-index c.recipe-item.result (record { building = c.in_ok-building.building; running = c.in_ok-running.running })
      c.as_slice-recipe-items.ensures c.loop-recipe-test.true c.recipe-item.is c.loop-recipe.invariant.long c.in_ok-push.ensures.items (record { building = c.in_ok-building.ensures; running = c.in_ok-running.ensures }) c.loop-recipe.invariant.each;
}
