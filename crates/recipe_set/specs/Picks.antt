-- The recipes that are chosen so far, by their PNs.
use Rattle.std.specs.Prelude.{◌≡◌, ℕ, List, Option, Result, Ok, String, filter, bytes_eq}
use Rattle.std.specs.Global.{Global}
use Rattle.std.specs.Option.{option_map}
use Rattle.std.specs.Map.{lookup}
use Rattle.std.specs.BTreeMap.{BTreeMap, get_by_text}
use Rattle.load_model.specs.Recipes.{Recipe, SetRefusal}
use Rattle.recipe_facts.specs.Recipe.{recipe_meant}
use Rattle.recipe_set.specs.declared.choice.Pick.{Pick}
use Rattle.recipe_set.specs.Held.{Held, held_of}

abbrev pub pick_meant : Pick → Held
pick_meant pick = (recipe_meant pick.recipe, pick.fits)

-- what is chosen so far of a PN
abbrev pub held_at : BTreeMap (String Global) Pick → List ℕ → Option Held
held_at picks pn = option_map pick_meant (get_by_text picks pn)

-- what these preferences choose among some recipes
abbrev pub ArePicks : List (List ℕ × List ℕ) → List Recipe → BTreeMap (String Global) Pick → Type 0
ArePicks versions recipes picks = (t : List ℕ) → held_at picks t ≡ held_of (lookup (bytes_eq t) versions) (filter (λ r. bytes_eq r.pn t) recipes)

-- what these preferences choose among the recipes that were read, which are no refusal
pub record ArePicked (versions : List (List ℕ × List ℕ)) (read : Result (List Recipe) SetRefusal) (picks : BTreeMap (String Global) Pick) : Type 0 where
  pub recipes : List Recipe
  pub are : read ≡ Ok recipes
  pub picked : ArePicks versions recipes picks
