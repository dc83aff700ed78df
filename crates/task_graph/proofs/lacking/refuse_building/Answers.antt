use Rattle.std.proofs.Common.{◌∙◌, sym, ap}
use Rattle.meta_model.specs.Text.{is_in}
use Rattle.task_graph.proofs.Refusals.{lacks_to_build}
use Rattle.task_graph.proofs.lacking.refuse_building.Goals as goal

pub returns-in-None : goal.returns-in-None
returns-in-None c = lacks_to_build c.args.facts.now c.args.recipe.now c.as_slice-name-items.result.now c.loop-name.name-index c.name-item.result c.as_str-in-None.result.now c.as_slice-name-items.ensures c.loop-name-test.true c.name-item.is c.as_str-in-None.ensures
    (ap (λ n. is_in n c.args.facts.now.assumed) (sym c.as_str.ensures) ∙ sym c.is_assumed.ensures ∙ c.if-not-is_assumed.true) c.refuse_name.result c.refuse_name.ensures
