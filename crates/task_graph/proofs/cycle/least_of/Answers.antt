use Rattle.std.proofs.Common.{◌≡◌, ◌∙◌, sym, ap}
use Rattle.std.specs.Ordering.{is_lt}
use Rattle.meta_model.specs.TaskGraph.{id_cmp}
use Rattle.task_graph.proofs.Turning.{less_now, least_still, least_of_all}
use Rattle.task_graph.proofs.cycle.least_of.Goals as goal
use Rattle.task_graph.proofs.cycle.least_of.Goals.{then-is_lt, else-is_lt}

pub loop-place-preserved : goal.loop-place-preserved
loop-place-preserved c =
    let ids = c.args.ids.now in
    let i = c.loop-place.place in
    let x = c.index-ids-place.result in
    let y = c.index-ids-least.result in
    let before = c.loop-place.invariant.least in
    let within = c.loop-place.invariant.within in
    let tested : c.is_lt.result ≡ is_lt (id_cmp c.index-ids-place.result c.index-ids-least.result) = c.is_lt.ensures ∙ ap is_lt c.compare_ids.ensures in
    elim c.if-is_lt.branch [
      | then-is_lt w ↦ rw w.least-is (record { within = c.loop-place-test.true; least = less_now ids i c.loop-place.least x y c.loop-place-test.true within c.index-ids-place.is c.index-ids-least.is before (sym tested ∙ w.if-is_lt.true) })
      | else-is_lt w ↦ rw w.least-is (record { within = within; least = least_still ids i c.loop-place.least x y c.loop-place-test.true within c.index-ids-place.is c.index-ids-least.is before (sym tested ∙ w.if-is_lt.false) })
    ]

pub returns-clause-least : goal.returns-clause-least
returns-clause-least c = least_of_all c.args.ids.now c.loop-place.least c.loop-place.place c.loop-place-test.false c.loop-place.invariant.least
