use Rattle.std.proofs.Common.{◌≡◌, filter, take}
use Rattle.load_model.specs.Recipes.{belongs}
use Rattle.recipe_set.proofs.by_name.walked.Given as goal

abbrev pub invariant-loop-append : goal.invariant-loop-append
invariant-loop-append l = l.made ≡ filter (belongs l.recipe) (take l.append-index l.appends)
