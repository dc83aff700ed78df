use Rattle.std.proofs.Common.{◌≡◌, ◌∙◌, ap, sym, false, filter}
use Rattle.std.specs.List.{list_any}
use Rattle.std.proofs.lemmas.Result.{IfOk-weaker}
use Rattle.load_model.specs.Recipes.{belongs, appends_of}
use Rattle.recipe_set.specs.Stems.{recipe_stem, is_open, named_at}
use Rattle.recipe_set.proofs.Appending.{all_named}
use Rattle.recipe_set.proofs.by_name.Appends.of_recipe.Goals as goal

pub returns : goal.returns
returns c =
    let recipe = c.args.recipe.now in
    let appends = c.args.appends.now in
    let away : list_any (belongs recipe) (filter is_open appends) ≡ false = sym (c.has_any.ensures ∙ ap (list_any (belongs recipe)) (c.as_slice.ensures ∙ c.requires.apart)) ∙ c.if-has_any.false in
    IfOk-weaker c.named_for.result (λ made. made ≡ named_at c.args.self.now.named c.recipe_stem.result.now) (λ made. made ≡ appends_of recipe appends)
    (λ made e. e ∙ ap (named_at c.args.self.now.named) c.recipe_stem.ensures ∙ c.requires.named (recipe_stem recipe) ∙ all_named recipe appends away)
    c.named_for.ensures
