-- What small projects give, as the worked examples use it: the definitions put together over files that are written out.
use Rattle.std.specs.Prelude.{ℕ, List, [], ◌∷◌, map, Option, Some, None, Result, Ok, Err, bytes_eq, slice_get, codes}
use Rattle.std.specs.Map.{lookup}
use Rattle.std.specs.Option.{option_map}
use Rattle.meta_model.specs.declared.line.Kind.{Kind}
use Rattle.meta_model.specs.declared.line.Kind.TheVariants.{Conf}
use Rattle.meta_model.specs.declared.entry.EntryLine.{EntryLine}
use Rattle.meta_model.specs.declared.facts.FactSet.{FactSet}
use Rattle.meta_model.specs.declared.facts.RecipeFacts.{RecipeFacts}
use Rattle.meta_model.specs.Lines.{lines_of_text}
use Rattle.meta_model.specs.Statements.{of_lines}
use Rattle.meta_model.specs.Base.{flag}
use Rattle.meta_model.specs.Active.{value}
use Rattle.load_model.specs.LoadRefusal.{LoadRefusal, LoadCause, nowhere, ◌>>=◌, refused_as, asked_at, there}
use Rattle.load_model.specs.Loading.{Contents, Sources, with_cause, entries}
use Rattle.load_model.specs.Layers.{LayerRefusal, no_list, Config, config, starting_with}
use Rattle.load_model.specs.Recipes.{SetRefusal, bad_name, too_many, no_value, name_of_file, asked_of, Recipe, recipe_read}
use Rattle.load_model.specs.Facts.{RecipeSet, recipe_set, environment}

-- files, each with its text, which is UTF-8
abbrev pub Files : Type 0
Files = List (List ℕ × List ℕ)

abbrev pub sample_contents : Kind → List ℕ → Contents
sample_contents kind text = with_cause (of_lines kind (lines_of_text text))

abbrev pub sample : Files → Sources
sample files path kind = option_map (sample_contents kind) (lookup (bytes_eq path) files)

-- a refusal with its place
abbrev pub load_refusal : List ℕ → ℕ → LoadCause → LoadRefusal
load_refusal file line cause = record { file = file; line = line; cause = cause }

-- the expanded value of a name behind one file
abbrev pub value_behind : Files → Kind → List ℕ → List ℕ → Result (Option (List ℕ)) LoadRefusal
value_behind files kind path name = entries (sample files) kind path (starting_with []) >>= λ loaded. asked_at nowhere (value loaded.lines name)

-- the classes that one file reads, the last first
abbrev pub classes_behind : Files → Kind → List ℕ → Result (List (List ℕ)) LoadRefusal
classes_behind files kind path = entries (sample files) kind path (starting_with []) >>= λ loaded. Ok loaded.classes

-- a recipe over a configuration
abbrev pub recipe_in : Files → List EntryLine → List (List ℕ) → List ℕ → Result Recipe SetRefusal
recipe_in files config appends path = there (bad_name path) (name_of_file path) >>= λ name. recipe_read (sample files) config appends path name

-- the expanded value of a name in a recipe
abbrev pub recipe_value : Files → List (List ℕ) → List ℕ → List ℕ → Result (Option (List ℕ)) SetRefusal
recipe_value files appends path name = recipe_in files [] appends path >>= λ recipe. asked_of path (value recipe.lines name)

-- why it is refused
abbrev pub refusal_of : {A E : Type 0} → Result A E → Option E
refusal_of (Ok a) = None
refusal_of (Err refusal) = Some refusal

abbrev pub refused_recipe : List EntryLine → Files → List ℕ → Option SetRefusal
refused_recipe config files path = refusal_of (recipe_in files config [] path)

abbrev pub pn_in : Files → List ℕ → Result (List ℕ) SetRefusal
pn_in files path = recipe_in files [] [] path >>= λ recipe. Ok recipe.pn

-- the configuration and the lists
abbrev pub config_in : Files → Result Config LayerRefusal
config_in files = config (sample files) (map (λ file. file.0) files)

abbrev pub config_value : Files → List ℕ → Result (Option (List ℕ)) LayerRefusal
config_value files name = config_in files >>= λ made. refused_as no_list (value made.lines name)

abbrev pub flag_in_config : Files → List ℕ → List ℕ → Result (Option (List ℕ)) LayerRefusal
flag_in_config files name f = config_in files >>= λ made. Ok (flag made.lines name f)

abbrev pub recipes_in : Files → Result (List (List ℕ)) LayerRefusal
recipes_in files = config_in files >>= λ made. Ok made.recipes

abbrev pub appends_in : Files → Result (List (List ℕ)) LayerRefusal
appends_in files = config_in files >>= λ made. Ok made.appends

-- why a project has no facts
pub data ProjectRefusal : Type 0 where
  configuration : LayerRefusal → ProjectRefusal
  recipes : SetRefusal → ProjectRefusal

-- the facts of all recipes of a project
abbrev pub project : Files → Result RecipeSet ProjectRefusal
project files = do
  made ← refused_as configuration (config_in files)
  refused_as recipes (recipe_set (sample files) made.lines made.recipes made.appends)

abbrev pub facts_in : Files → Result FactSet ProjectRefusal
facts_in files = project files >>= λ set. Ok set.facts

-- PN, PV and PR of the chosen recipes
abbrev pub versions_in : Files → Result (List (List ℕ × List ℕ × List ℕ)) ProjectRefusal
versions_in files = project files >>= λ set. Ok (map (λ (r : RecipeFacts). (r.pn, r.pv, r.pr)) set.facts.recipes)

-- the files of the chosen recipes
abbrev pub chosen_files : Files → Result (List (List ℕ)) ProjectRefusal
chosen_files files = project files >>= λ set. Ok (map (λ (r : RecipeFacts). r.file) set.facts.recipes)

-- the expanded value of a name in the chosen recipe of this number
abbrev pub value_in_project : Files → ℕ → List ℕ → Result (Option (List ℕ)) ProjectRefusal
value_in_project files n name = do
  set ← project files
  lines ← there (recipes too_many) (slice_get set.stores n)
  refused_as (λ refusal. recipes (no_value [] refusal)) (value lines name)

-- all names with their values in the chosen recipe of this number
abbrev pub environment_in : Files → ℕ → Result (List (List ℕ × List ℕ)) ProjectRefusal
environment_in files n = do
  set ← project files
  lines ← there (recipes too_many) (slice_get set.stores n)
  refused_as (λ refusal. recipes (no_value [] refusal)) (environment lines)

-- the same behind one file of a configuration
abbrev pub environment_of : List ℕ → Result (List (List ℕ × List ℕ)) LoadRefusal
environment_of text = entries (sample ((codes "a.conf", text) ∷ [])) Conf (codes "a.conf") (starting_with []) >>= λ loaded. asked_at nowhere (environment loaded.lines)
