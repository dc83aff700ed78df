use Rattle.recipe_facts.specs.Recipe.{recipe_meant}
use Rattle.recipe_set.proofs.all.read_one.Goals as goal

pub returns-in-Ok-pick-clause-ok : goal.returns-in-Ok-pick-clause-ok
returns-in-Ok-pick-clause-ok g c = λ told. (recipe_meant c.in-Ok.recipe, (c.in-Ok.ensures.ok told, λ wishes before named are. c.in-Ok-pick.ensures.picked wishes before named are))
