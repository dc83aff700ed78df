use Rattle.std.proofs.Common.{◌≡◌, drop, map}
use Rattle.load_model.specs.Facts.{all_facts}
use Rattle.meta_model.specs.Passing.{behind}
use Rattle.recipe_facts.specs.Recipe.{recipe_meant}
use Rattle.recipe_set.proofs.set.all_facts.Given as goal

abbrev pub invariant-loop-recipe : goal.invariant-loop-recipe
invariant-loop-recipe l = all_facts (map recipe_meant l.recipes) ≡ behind l.made (all_facts (map recipe_meant (drop l.recipe-index l.recipes)))
