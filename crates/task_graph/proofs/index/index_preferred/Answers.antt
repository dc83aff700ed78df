use Rattle.std.proofs.Common.{◌≡◌, ◌<◌, refl, subst, List, length, get_or}
use Rattle.std.specs.HashMap.{get_by_text}
use Rattle.meta_model.specs.declared.facts.RecipeFacts.{RecipeFacts}
use Rattle.meta_model.specs.Providers.{is_preferred}
use Rattle.task_graph.proofs.Indexed.{index_step}
use Rattle.task_graph.proofs.index.index_preferred.Goals as goal

pub loop-number-preserved : goal.loop-number-preserved
loop-number-preserved c = λ q.
    let facts = c.args.facts.now in
    let lt = subst (λ (xs : List RecipeFacts). c.loop-number.number < length xs) c.as_slice-recipe-items.ensures c.loop-number-test.true in
    let is = subst (λ (xs : List RecipeFacts). c.recipe-item.result ≡ get_or xs c.loop-number.number c.recipe-item.result) c.as_slice-recipe-items.ensures c.recipe-item.is in
    index_step (is_preferred facts q) facts.recipes c.loop-number.number c.recipe-item.result (is_preferred facts q c.recipe-item.result) (get_by_text c.loop-number.map q) (get_by_text c.note_preferred.new.map q)
    lt is refl (c.loop-number.invariant q) (c.in_ok-note_preferred.ensures q)
