-- A recipe that was read, and what it says of its packages.
use Rattle.std.specs.Prelude.{ℕ, List, Result, Ok, codes}
use Rattle.meta_model.specs.declared.entry.EntryLine.{EntryLine}
use Rattle.meta_model.specs.declared.facts.Package.{Package}
use Rattle.meta_model.specs.Refusal.{Refusal}
use Rattle.load_model.specs.LoadRefusal.{◌>>=◌}
use Rattle.load_model.specs.Layers.{words_of}
use Rattle.load_model.specs.Recipes.{Recipe as Meant}
use Rattle.load_model.specs.Facts.{needed_words, recipe_packages, all_tasks}
use Rattle.meta_model.specs.Tasks.{tasks}
use Rattle.meta_model.specs.declared.facts.RecipeFacts.{RecipeFacts}
use Rattle.recipe_facts.specs.declared.of_recipe.Recipe.{Recipe}

-- what the code's record says
abbrev pub recipe_meant : Recipe → Meant
recipe_meant made = record { file = made.file; pn = made.pn; pv = made.pv; pr = made.pr; lines = made.store }

-- what a recipe says of its packages
abbrev pub packages_of : List EntryLine → Result (List Package) Refusal
packages_of lines = do
  names ← words_of lines (codes "PACKAGES")
  provided ← words_of lines (codes "RPROVIDES")
  needed ← needed_words lines (codes "RDEPENDS")
  recipe_packages lines provided needed names

-- what a recipe says of itself, where the words of PROVIDES and DEPENDS are these
abbrev pub facts_behind : Meant → List (List ℕ) → List (List ℕ) → Result RecipeFacts Refusal
facts_behind recipe provides depends = do
  packages ← packages_of recipe.lines
  list ← all_tasks recipe.lines (tasks recipe.lines)
  Ok (record { file = recipe.file; pn = recipe.pn; pv = recipe.pv; pr = recipe.pr; provides = provides; depends = depends; packages = packages; tasks = list })
