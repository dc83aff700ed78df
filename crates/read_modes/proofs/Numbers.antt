-- The numbers of recipes, and their values.
use Rattle.std.proofs.Common.{◌≡◌, refl, sym, ◌∙◌, ap, ℕ, ◌<◌, List, [], length, get_or, Ok}
use Rattle.std.specs.Option.{option_map, option_map_or}
use Rattle.std.proofs.lemmas.Option.{slice_get_read}
use Rattle.meta_model.specs.declared.entry.EntryLine.{EntryLine}
use Rattle.meta_model.specs.declared.facts.RecipeFacts.{RecipeFacts}
use Rattle.load_model.specs.Facts.{RecipeSet}
use Rattle.answer_model.specs.Modes.{recipe_values, values_of_number}

-- the values of the recipe with a number
pub value_is : (set : RecipeSet) (n : ℕ) (recipe : RecipeFacts) (store : List EntryLine) → n < length set.facts.recipes → recipe ≡ get_or set.facts.recipes n recipe → store ≡ get_or set.stores n [] → values_of_number set n ≡ recipe_values (recipe, store)
value_is set n recipe store lt is at =
    ap (λ o. option_map_or recipe_values (option_map (λ r. (r, get_or set.stores n [])) o) (Ok [])) (slice_get_read set.facts.recipes (length set.facts.recipes) n recipe refl lt is)
    ∙ ap (λ s. recipe_values (recipe, s)) (sym at)
