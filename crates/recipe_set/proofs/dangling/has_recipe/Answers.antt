use Rattle.std.proofs.Common.{sym}
use Rattle.std.proofs.lemmas.List.{take_all}
use Rattle.recipe_set.proofs.dangling.has_recipe.Goals as goal

pub returns : goal.returns
returns c = sym (rw (take_all _ _ c.loop-path-test.false) at c.loop-path.invariant)
