use Rattle.std.proofs.Common.{◌∙◌, ap, arith, length}
use Rattle.std.specs.HashMap.{get_by_text}
use Rattle.std.proofs.lemmas.List.{length_push}
use Rattle.task_graph.proofs.Tabled.{task_more, spots_more}
use Rattle.task_graph.proofs.table.number_tasks.Goals as goal

pub loop-place-preserved : goal.loop-place-preserved
loop-place-preserved c = record {
  tasks = task_more c.loop-place.spots.items c.push.new.self.items c.args.recipe (length c.args.spots.now.items) c.args.tasks.now c.loop-place.place c.index-tasks-place.result c.as_str.result.now (get_by_text c.loop-place.map) (get_by_text c.note_first.new.map)
      c.loop-place-test.true c.index-tasks-place.is c.as_str.ensures c.loop-place.invariant.long c.in_ok-push.ensures.items c.loop-place.invariant.tasks (rw (c.len.ensures ∙ c.loop-place.spots.ok.0) at c.in_ok-note_first.ensures);
  kept = spots_more c.args.spots.now.items c.loop-place.spots.items c.push.new.self.items _ c.loop-place.invariant.kept c.in_ok-push.ensures.items;
  long = omega (arith, ap length c.in_ok-push.ensures.items, length_push c.loop-place.spots.items (record { recipe = c.args.recipe; place = c.loop-place.place }), c.loop-place.invariant.long);
}
