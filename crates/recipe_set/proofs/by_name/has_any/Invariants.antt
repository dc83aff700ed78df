use Rattle.std.proofs.Common.{◌≡◌, false, take}
use Rattle.std.specs.List.{list_any}
use Rattle.load_model.specs.Recipes.{belongs}
use Rattle.recipe_set.proofs.by_name.has_any.Given as goal

abbrev pub invariant-loop-append : goal.invariant-loop-append
invariant-loop-append l = list_any (belongs l.recipe) (take l.append-index l.appends) ≡ false
