use Rattle.std.proofs.Common.{◌≡◌, false, take}
use Rattle.std.specs.List.{list_any}
use Rattle.load_model.specs.Recipes.{belongs}
use Rattle.recipe_set.proofs.dangling.has_recipe.Given as goal

abbrev pub invariant-loop-path : goal.invariant-loop-path
invariant-loop-path l = list_any (λ path. belongs path l.append) (take l.path-index l.paths) ≡ false
