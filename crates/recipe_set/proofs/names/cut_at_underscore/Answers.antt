use Rattle.recipe_set.proofs.Naming.{cut_parts}
use Rattle.recipe_set.proofs.names.cut_at_underscore.Goals as goal

pub returns : goal.returns
returns c = cut_parts c.args.text.now c.split_once.result c.split_once.ensures.cases
