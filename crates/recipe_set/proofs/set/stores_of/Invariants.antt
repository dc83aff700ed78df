use Rattle.std.proofs.Common.{◌≡◌, ◌++◌, map, length}
use Rattle.std.specs.Vec.Iter.{into_iter_items, into_iter_len}
use Rattle.recipe_facts.specs.declared.of_recipe.Recipe.{Recipe}
use Rattle.recipe_set.proofs.set.stores_of.Given as goal

-- the entries so far, and the recipes that are left
abbrev pub invariant-loop-recipe : goal.invariant-loop-recipe
invariant-loop-recipe l = record {
  count : into_iter_len l.recipe-iterator ≡ length (into_iter_items l.recipe-iterator);
  stores : l.made.items ++ map (λ (r : Recipe). r.store) (into_iter_items l.recipe-iterator) ≡ map (λ (r : Recipe). r.store) l.fn.recipes.items;
}
