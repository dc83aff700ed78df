use Rattle.recipe_facts.proofs.Valued.{cut_front}
use Rattle.recipe_facts.proofs.values.without_front.Goals as goal

pub returns : goal.returns
returns c = cut_front c.args.front.now c.args.name.now c.strip_prefix.result c.strip_prefix.ensures.cases
