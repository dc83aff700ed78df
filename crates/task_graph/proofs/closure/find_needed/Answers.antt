use Rattle.std.proofs.Common.{◌∙◌, ap, List, ℕ}
use Rattle.graph_walk.specs.Frontier.{with_nodes}
use Rattle.task_graph.proofs.Belows.{building_within, running_within, found_both}
use Rattle.task_graph.proofs.closure.find_needed.Goals as goal

pub add_all-requires-clause-within : goal.add_all-requires-clause-within
add_all-requires-clause-within c = building_within c.args.all.now c.args.recipe _ c.index-all-recipe.result c.as_slice.result.now c.requires.numbers c.requires.within c.index-all-recipe.is c.as_slice.ensures.value c.requires.count

pub add_all-requires-2-clause-within : goal.add_all-requires-2-clause-within
add_all-requires-2-clause-within c = running_within c.args.all.now c.args.recipe _ c.index-all-recipe.result c.running_of.result.now c.requires.numbers c.requires.within c.index-all-recipe.is c.running_of.ensures (c.in_ok-add_all.ensures.count ∙ c.requires.count)

pub returns-clause-found : goal.returns-clause-found
returns-clause-found c = c.in_ok-add_all-2.ensures.found ∙ ap (λ (l : List ℕ). with_nodes l c.running_of.result.now) c.in_ok-add_all.ensures.found
    ∙ found_both c.args.all.now c.args.recipe c.index-all-recipe.result c.args.frontier.now.found.items c.as_slice.result.now c.running_of.result.now c.requires.within c.index-all-recipe.is c.as_slice.ensures.value c.running_of.ensures
