use Rattle.recipe_set.proofs.Naming.{too_many_parts}
use Rattle.recipe_set.proofs.names.named_with_revision.Goals as goal

pub returns-in-Some : goal.returns-in-Some
returns-in-Some c = too_many_parts c.args.pn.now c.args.pv.now c.args.rest.now c.in-Some.field-0.0.now c.in-Some.field-0.1.now c.in-Some.ensures
