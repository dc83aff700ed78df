use Rattle.std.proofs.Common.{◌≡◌, ◌∙◌, ap, sym, ◌++◌, ◌∷◌, [], map, length, append-nil, append_assoc, arith}
use Rattle.std.specs.Vec.Iter.{into_iter_items}
use Rattle.std.proofs.lemmas.List.{nil_from_length}
use Rattle.recipe_facts.specs.declared.of_recipe.Recipe.{Recipe}
use Rattle.recipe_set.proofs.Setting.{stores_meant}
use Rattle.recipe_set.proofs.set.stores_of.Goals as goal

pub returns : goal.returns
returns c =
    let value = λ (r : Recipe). r.store in
    let left = into_iter_items c.loop-recipe.recipe-iterator in
    let none = nil_from_length left (sym c.loop-recipe.invariant.count ∙ c.in-None.ensures.steps.0) in
    sym (append-nil c.loop-recipe.made.items) ∙ ap (λ l. c.loop-recipe.made.items ++ map value l) (sym none) ∙ c.loop-recipe.invariant.stores
    ∙ stores_meant c.args.recipes.items

pub loop-recipe-preserved : goal.loop-recipe-preserved
loop-recipe-preserved c =
    let value = λ (r : Recipe). r.store in
    let at = c.loop-recipe in
    let recipe = c.in-Some.recipe in
    let left = into_iter_items c.next.new.self in
    let steps : into_iter_items at.recipe-iterator ≡ recipe ∷ left = c.in-Some.ensures.steps.0 in
    record {
      count = (let gone = c.in-Some.ensures.steps.1 in let short = ap (length {A = Recipe}) steps in omega (arith, at.invariant.count, gone, short));
      stores = ap (λ m. m ++ map value left) c.in_ok-push.ensures.items ∙ append_assoc at.made.items (recipe.store ∷ []) (map value left) ∙ ap (λ l. at.made.items ++ map value l) (sym steps) ∙ at.invariant.stores;
    }
