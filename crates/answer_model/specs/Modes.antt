-- What the modes that only read metadata print.
use Rattle.std.specs.Prelude.{ℕ, List, [], ◌∷◌, ◌++◌, length, slice_get, slice_index_or, Option, Result, Ok, Err, if◌then◌else◌}
use Rattle.std.specs.Option.{option_map, option_map_or}
use Rattle.meta_model.specs.declared.entry.EntryLine.{EntryLine}
use Rattle.meta_model.specs.declared.facts.FactSet.{FactSet}
use Rattle.meta_model.specs.declared.facts.RecipeFacts.{RecipeFacts}
use Rattle.meta_model.specs.declared.event.Status.{Status}
use Rattle.meta_model.specs.Frozen.{frozen}
use Rattle.meta_model.specs.Providers.{provider}
use Rattle.meta_model.specs.GraphRefusal.{nothing_provides, unprovided}
use Rattle.load_model.specs.LoadRefusal.{◌>>=◌, refused_as}
use Rattle.load_model.specs.Loading.{Sources}
use Rattle.load_model.specs.Layers.{Config}
use Rattle.load_model.specs.Facts.{RecipeSet, environment}
use Rattle.run_model.specs.Texts.{env_text, recipe_line, versions_text, parsed_text}
use Rattle.answer_model.specs.declared.asked.ReadMode.{ReadMode}
use Rattle.answer_model.specs.declared.asked.ReadMode.TheVariants.{Parse, Versions, Environment}
use Rattle.answer_model.specs.Said.{value_status, lack_status}
use Rattle.answer_model.specs.Project.{read_config, read_recipes}
use Rattle.answer_model.specs.Targets.{is_elsewhere, target_name}

-- the number of the recipe that provides a name
abbrev pub provider_number : FactSet → List ℕ → Result ℕ Status
provider_number facts name = refused_as (λ pns. lack_status (unprovided name pns)) (provider facts name)

-- The number of a target's recipe. A target is NAME or NAME:TASK: its recipe is the provider of NAME, and its task isn't looked at.
-- A word that begins with `mc:` asks for another configuration, which nothing provides until several are built (own rules).
abbrev pub target_recipe : FactSet → List ℕ → Result ℕ Status
target_recipe facts word = if is_elsewhere word then Err (lack_status (nothing_provides word)) else provider_number facts (target_name word)

-- the numbers of the targets' recipes, in the order of the targets
abbrev pub target_recipes : FactSet → List (List ℕ) → Result (List ℕ) Status
target_recipes facts [] = Ok []
target_recipes facts (target ∷ targets) = do
  first ← target_recipe facts target
  others ← target_recipes facts targets
  Ok (first ∷ others)

-- the recipe with a number, with its entries
abbrev pub recipe_at : RecipeSet → ℕ → Option (RecipeFacts × List EntryLine)
recipe_at set n = option_map (λ recipe. (recipe, slice_index_or set.stores n [])) (slice_get set.facts.recipes n)

-- the values of a recipe behind its own line
abbrev pub recipe_values : RecipeFacts × List EntryLine → Result (List ℕ) Status
recipe_values recipe = refused_as (value_status recipe.0.file 0) (environment recipe.1) >>= λ rows. Ok (recipe_line recipe.0.pn ++ env_text rows)

-- the values of the recipe with a number; a number without a recipe, which no provider has, gives nothing
abbrev pub values_of_number : RecipeSet → ℕ → Result (List ℕ) Status
values_of_number set n = option_map_or recipe_values (recipe_at set n) (Ok [])

abbrev pub all_values : RecipeSet → List ℕ → Result (List ℕ) Status
all_values set [] = Ok []
all_values set (number ∷ numbers) = do
  first ← values_of_number set number
  others ← all_values set numbers
  Ok (first ++ others)

-- The values of the targets' recipes, each behind its own line. All targets are looked up before the first value (own rule).
abbrev pub values_of_targets : RecipeSet → List (List ℕ) → Result (List ℕ) Status
values_of_targets set targets = target_recipes set.facts targets >>= λ numbers. all_values set numbers

-- the values of entries, as they are printed
abbrev pub values_at : List ℕ → List EntryLine → Result (List ℕ) Status
values_at file lines = refused_as (value_status file 0) (environment lines) >>= λ rows. Ok (env_text rows)

-- The values of the configuration, once its names are moved. No recipe is read for them (own rule).
abbrev pub config_values : Config → Result (List ℕ) Status
config_values made = refused_as (value_status [] 0) (frozen made.lines) >>= values_at []

abbrev pub targets_over : Sources → Config → List (List ℕ) → Result (List ℕ) Status
targets_over sources made targets = read_recipes sources made >>= λ set. values_of_targets set targets

-- the values of the targets' recipes; without targets those of the configuration ("The BitBake Command", option `-e`)
abbrev pub environment_of : Sources → Config → List (List ℕ) → Result (List ℕ) Status
environment_of sources made [] = config_values made
environment_of sources made (target ∷ targets) = targets_over sources made (target ∷ targets)

-- the number of recipes, once they are read
abbrev pub parsed_over : Sources → Config → Result (List ℕ) Status
parsed_over sources made = read_recipes sources made >>= λ set. Ok (parsed_text (length made.recipes))

-- the chosen recipes and their versions
abbrev pub versions_over : Sources → Config → Result (List ℕ) Status
versions_over sources made = read_recipes sources made >>= λ set. Ok (versions_text set.facts.recipes)

abbrev pub text_of : ReadMode → Sources → Config → List (List ℕ) → Result (List ℕ) Status
text_of Parse sources made targets = parsed_over sources made
text_of Versions sources made targets = versions_over sources made
text_of Environment sources made targets = environment_of sources made targets

-- The text of a mode for targets, over the paths of all files, or the status that it is refused with. The targets of `-p` and
-- `-s` aren't looked at (own rule).
abbrev pub mode_text : ReadMode → Sources → List (List ℕ) → List (List ℕ) → Result (List ℕ) Status
mode_text mode sources paths targets = do
  made ← read_config sources paths
  text_of mode sources made targets
