use Rattle.std.proofs.Common.{◌≡◌, take, drop}
use Rattle.load_model.specs.Recipes.{all_belong}
use Rattle.meta_model.specs.Passing.{behind}
use Rattle.recipe_set.proofs.dangling.dangling.Given as goal

abbrev pub invariant-loop-append : goal.invariant-loop-append
invariant-loop-append l = all_belong l.paths l.appends ≡ behind (take l.append-index l.appends) (all_belong l.paths (drop l.append-index l.appends))
