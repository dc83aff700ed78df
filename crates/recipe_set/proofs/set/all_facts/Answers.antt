use Rattle.std.proofs.Common.{◌∙◌, ap, sym, refl, ◌+◌, drop, map, List}
use Rattle.load_model.specs.Recipes.{asked_of}
use Rattle.load_model.specs.Facts.{facts_of, all_facts}
use Rattle.recipe_facts.specs.declared.of_recipe.Recipe.{Recipe}
use Rattle.meta_model.specs.Passing.{behind}
use Rattle.meta_model.proofs.Passing.{one_turn}
use Rattle.recipe_facts.specs.Recipe.{recipe_meant}
use Rattle.recipe_set.proofs.Setting.{set_exit, set_one}
use Rattle.recipe_set.proofs.set.all_facts.Goals as goal

pub returns-in_err-facts_at-clause-err : goal.returns-in_err-facts_at-clause-err
returns-in_err-facts_at-clause-err c =
    let make = λ (r : Recipe). asked_of r.file (facts_of (recipe_meant r)) in
    let all = λ (rs : List Recipe). all_facts (map recipe_meant rs) in
    let fault = c.in_err-facts_at.field-0.0 in
    set_exit c.from_residual.result fault (all c.args.recipes.now) c.from_residual.ensures.1
    (set_one make all (λ b rest. refl) (all c.args.recipes.now) c.loop-recipe.made c.args.recipes.now c.loop-recipe.recipe-index c.recipe-item.result fault c.recipe-item.is c.loop-recipe-test.true c.loop-recipe.invariant
    c.in_err-facts_at.ensures.err)

pub loop-recipe-preserved : goal.loop-recipe-preserved
loop-recipe-preserved c =
    let make = λ (r : Recipe). asked_of r.file (facts_of (recipe_meant r)) in
    let all = λ (rs : List Recipe). all_facts (map recipe_meant rs) in
    one_turn make all (λ b rest. refl) (all c.args.recipes.now) c.loop-recipe.made c.args.recipes.now c.loop-recipe.recipe-index c.recipe-item.result c.in_ok-facts_at.field-0 c.recipe-item.is c.loop-recipe-test.true c.loop-recipe.invariant
    c.in_ok-facts_at.ensures.ok
    ∙ ap (λ m. behind m (all (drop (c.loop-recipe.recipe-index + 1) c.args.recipes.now))) (sym c.in_ok-push.ensures.ok)
