-- What a run is asked for: what all recipes say, and the targets.
use Rattle.std.specs.Prelude.{ℕ, List, [], ◌∷◌, Option, Some, None, Result, Ok, Err, codes, if◌then◌else◌}
use Rattle.meta_model.specs.declared.entry.EntryLine.{EntryLine}
use Rattle.meta_model.specs.declared.facts.Target.{Target}
use Rattle.meta_model.specs.declared.event.Status.{Status}
use Rattle.meta_model.specs.Frozen.{frozen}
use Rattle.meta_model.specs.GraphRefusal.{nothing_provides}
use Rattle.load_model.specs.LoadRefusal.{◌>>=◌, refused_as}
use Rattle.load_model.specs.Loading.{Sources}
use Rattle.load_model.specs.Layers.{Config}
use Rattle.load_model.specs.Recipes.{text_of}
use Rattle.load_model.specs.Facts.{RecipeSet}
use Rattle.answer_model.specs.Said.{value_status, lack_status}
use Rattle.answer_model.specs.Project.{read_config, read_recipes}
use Rattle.answer_model.specs.Targets.{target_of, is_elsewhere}

-- All recipes, the entries of the configuration once its names are moved, its appends, and the targets.
pub record Asked : Type 0 where
  pub set : RecipeSet
  pub lines : List EntryLine
  pub appends : List (List ℕ)
  pub targets : List Target

-- a value of the configuration, or the empty text; a refusal has no file
abbrev pub config_text : List EntryLine → List ℕ → Result (List ℕ) Status
config_text lines name = refused_as (value_status [] 0) (text_of lines name)

-- The task of targets that name none: that of the option `-c`, or else the value of BB_DEFAULT_TASK (BitBake User Manual,
-- "Variables Glossary", BB_DEFAULT_TASK; that the configuration's value counts, once names are moved, is an own rule).
abbrev pub default_task : List EntryLine → Option (List ℕ) → Result (List ℕ) Status
default_task lines (Some task) = Ok task
default_task lines None = config_text lines (codes "BB_DEFAULT_TASK")

-- a target; nothing provides a word of another configuration
abbrev pub target_in : List ℕ → List ℕ → Result Target Status
target_in default word = if is_elsewhere word then Err (lack_status (nothing_provides word)) else Ok (target_of default word)

abbrev pub targets_of : List ℕ → List (List ℕ) → Result (List Target) Status
targets_of default [] = Ok []
targets_of default (word ∷ words) = do
  target ← target_in default word
  others ← targets_of default words
  Ok (target ∷ others)

-- the targets of words over the entries of the configuration
abbrev pub targets_in : List EntryLine → List (List ℕ) → Option (List ℕ) → Result (List Target) Status
targets_in lines words task = default_task lines task >>= λ default. targets_of default words

-- what is asked for over all recipes and the configuration once its names are moved
abbrev pub asked_with : RecipeSet → List (List ℕ) → List EntryLine → List (List ℕ) → Option (List ℕ) → Result Asked Status
asked_with set appends lines words task = do
  targets ← targets_in lines words task
  Ok (record { set = set; lines = lines; appends = appends; targets = targets })

-- the entries once names are moved
abbrev pub moved : List EntryLine → Result (List EntryLine) Status
moved lines = refused_as (value_status [] 0) (frozen lines)

abbrev pub asked_over : Config → RecipeSet → List (List ℕ) → Option (List ℕ) → Result Asked Status
asked_over made set words task = moved made.lines >>= λ lines. asked_with set made.appends lines words task

abbrev pub asked_under : Sources → Config → List (List ℕ) → Option (List ℕ) → Result Asked Status
asked_under sources made words task = read_recipes sources made >>= λ set. asked_over made set words task

-- What words ask for, and the task of the option `-c`, over the paths of all files. Of several refusals the first in this order is
-- given: the configuration, the recipes, the default task, the words in their order (own rule).
abbrev pub asked : Sources → List (List ℕ) → List (List ℕ) → Option (List ℕ) → Result Asked Status
asked sources paths words task = do
  made ← read_config sources paths
  asked_under sources made words task

-- the text of the number of threads ("Variables Glossary", BB_NUMBER_THREADS)
abbrev pub threads_text : Asked → Result (List ℕ) Status
threads_text asked = config_text asked.lines (codes "BB_NUMBER_THREADS")
