use Rattle.std.proofs.Common.{◌∙◌, ap, sym, Ok, Result}
use Rattle.meta_model.proofs.Passing.{goes_on}
use Rattle.recipe_set.specs.Names.{name_meant}
use Rattle.recipe_set.proofs.Setting.{set_same, set_on, recipe_is}
use Rattle.load_model.specs.Recipes as recipes
use Rattle.load_model.specs.Recipes.{FileName, name_in, recipe_with}
use Rattle.load_model.specs.LoadRefusal.{◌>>=◌}
use Rattle.recipe_set.proofs.recipe.recipe_of.Goals as goal

pub returns-in-Ok-recipe_with-clause-ok : goal.returns-in-Ok-recipe_with-clause-ok
returns-in-Ok-recipe_with-clause-ok c =
    let path = c.args.path.now in
    let lines = c.args.store in
    recipe_is path lines ∙ goes_on (name_in path lines) (name_meant c.in-Ok.name) (λ name. Ok (recipe_with path lines name)) c.in-Ok.ensures.ok ∙ ap Ok (sym c.in-Ok-recipe_with.ensures)

pub returns-in-Err-clause-err : goal.returns-in-Err-clause-err
returns-in-Err-clause-err c =
    let path = c.args.path.now in
    let lines = c.args.store in
    let whole : FileName → Result recipes.Recipe recipes.SetRefusal = λ name. Ok (recipe_with path lines name) in
    set_same c.in-Err.fault (recipes.recipe_of path lines) (name_in path lines >>= whole) (recipe_is path lines) (set_on c.in-Err.fault (name_in path lines) whole c.in-Err.ensures.err)
