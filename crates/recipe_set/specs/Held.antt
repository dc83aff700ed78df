-- The recipe that is chosen so far.
use Rattle.std.specs.Prelude.{ℕ, Bool, true, false, List, Option, Some, None, fold, if◌then◌else◌}
use Rattle.std.specs.Ordering.{is_lt}
use Rattle.load_model.specs.Recipes.{Recipe}
use Rattle.load_model.specs.Facts.{recipe_cmp, fits}

-- a recipe, and whether it fits the preference
abbrev pub Held : Type 0
Held = Recipe × Bool

-- One gives way to another that fits the preference if it doesn't itself, and else to a greater one that fits as well as it.
abbrev pub gives_way_as : Bool → Bool → Bool → Bool
gives_way_as true true less = less
gives_way_as true false less = false
gives_way_as false true less = true
gives_way_as false false less = less

abbrev pub gives_way : Bool → Recipe → Bool → Recipe → Bool
gives_way fit held fits other = gives_way_as fit fits (is_lt (recipe_cmp held other))

-- what is held behind one more recipe
abbrev pub turned_to : Bool → Option Held → Recipe → Option Held
turned_to fits None recipe = Some (recipe, fits)
turned_to fits (Some held) recipe = if gives_way held.1 held.0 fits recipe then Some (recipe, fits) else Some held

-- the recipe fits the preference; where there is none, all do
abbrev pub fits_wish : Option (List ℕ) → Recipe → Bool
fits_wish None recipe = true
fits_wish (Some preference) recipe = fits preference recipe

-- what is held behind some recipes
abbrev pub held_of : Option (List ℕ) → List Recipe → Option Held
held_of wish recipes = fold (λ held recipe. turned_to (fits_wish wish recipe) held recipe) None recipes
