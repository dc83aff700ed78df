use Rattle.std.proofs.Common.{ap, arith, length}
use Rattle.std.specs.HashMap.{get_by_text}
use Rattle.std.proofs.lemmas.List.{length_push}
use Rattle.meta_model.specs.declared.facts.RecipeFacts.{RecipeFacts}
use Rattle.graph_walk.proofs.Finding.{place_within}
use Rattle.task_graph.proofs.Tabled.{recipe_more}
use Rattle.task_graph.proofs.table.TaskTable.new.Goals as goal

pub loop-number-preserved : goal.loop-number-preserved
loop-number-preserved c = record {
  long = omega (arith, ap length c.in_ok-push.ensures.items, length_push c.loop-number.places.items c.in_ok-map.map, c.loop-number.invariant.long);
  each = recipe_more get_by_text c.args.facts.now.recipes c.as_slice-recipe-items.result.now c.loop-number.spots.items c.number_tasks.new.spots.items c.loop-number.places.items c.push.new.self.items c.in_ok-map.map c.loop-number.number (length c.loop-number.spots.items) c.recipe-item.result c.as_slice.result.now
      c.as_slice-recipe-items.ensures c.loop-number-test.true c.recipe-item.is c.as_slice.ensures c.loop-number.invariant.long c.in_ok-push.ensures.items c.in_ok-map.ensures.kept c.in_ok-map.ensures.tasks c.loop-number.invariant.each;
}

pub returns : goal.returns
returns c = record {
  long = omega (arith, c.loop-number.invariant.long, ap (length {A = RecipeFacts}) c.as_slice-recipe-items.ensures);
  each = λ r recipe at. c.loop-number.invariant.each r recipe (omega (arith, place_within c.args.facts.now.recipes r recipe at, ap (length {A = RecipeFacts}) c.as_slice-recipe-items.ensures)) at;
}
