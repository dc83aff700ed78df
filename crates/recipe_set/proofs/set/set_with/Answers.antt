use Rattle.std.proofs.Common.{◌∙◌, ap, sym, length, map, arith}
use Rattle.load_model.specs.Recipes.{Recipe}
use Rattle.recipe_facts.specs.Recipe.{recipe_meant}
use Rattle.recipe_set.proofs.Setting.{facts_length, map_length}
use Rattle.recipe_set.proofs.set.set_with.Goals as goal

pub invariant_of-result : goal.invariant_of-result
invariant_of-result c =
    let same = facts_length (map recipe_meant c.args.recipes.items) c.args.facts c.requires.facts in
    let all = map_length recipe_meant c.args.recipes.items in (
      same ∙ sym (map_length (λ (r : Recipe). r.lines) (map recipe_meant c.args.recipes.items)) ∙ ap length (sym c.in_ok-stores.ensures),
      omega (arith, same, all, c.requires.few),
    )
