-- What a run of several configurations reads, or the status that this is refused with (own rules; BitBake User Manual, "The BitBake Command", section
-- "Executing a Multiple Configuration Build").
use Rattle.std.specs.Prelude.{ℕ, List, [], ◌∷◌, Option, Result, Ok, codes}
use Rattle.meta_model.specs.declared.event.Status.{Status}
use Rattle.meta_model.specs.declared.event.Status.TheVariants.{Metadata}
use Rattle.meta_model.specs.declared.entry.EntryLine.{EntryLine}
use Rattle.meta_model.specs.declared.facts.Target.{Target}
use Rattle.meta_model.specs.GraphRefusal as lacks
use Rattle.load_model.specs.LoadRefusal.{◌>>=◌, refused_as}
use Rattle.load_model.specs.Loading.{Sources}
use Rattle.load_model.specs.Layers.{Config}
use Rattle.load_model.specs.Facts.{RecipeSet}
use Rattle.answer_model.specs.Said.{lack_status, layer_status, value_status}
use Rattle.answer_model.specs.Project.{read_config, read_recipes}
use Rattle.answer_model.specs.RunAsked.{Asked, default_task, moved}
use Rattle.multi_config.specs.declared.parts.ConfigTargets.{ConfigTargets}
use Rattle.multi_config.specs.Reading.{config_named, configs_of}
use Rattle.multi_config.specs.Words.{WordRefusal, no_such_config, nothing_provides, parts_of}

-- a configuration by its name, over the default one
abbrev pub named_over : Sources → List ℕ → Config → Result Config Status
named_over sources mc made = refused_as layer_status (config_named sources mc made)

-- the same, over the paths of all files
abbrev pub read_named : Sources → List (List ℕ) → List ℕ → Result Config Status
read_named sources paths mc = read_config sources paths >>= named_over sources mc

-- why words have no parts
abbrev pub word_status : WordRefusal → Status
word_status (no_such_config name) = Metadata [] 0 (codes "NoSuchConfig") (name ∷ [])
word_status (nothing_provides word) = lack_status (lacks.nothing_provides word)

-- the names of the further configurations
abbrev pub config_names : Config → Result (List (List ℕ)) Status
config_names made = refused_as (value_status [] 0) (configs_of made.lines)

abbrev pub parts_among : List (List ℕ) → List (List ℕ) → List ℕ → Result (List ConfigTargets) Status
parts_among configs words default = refused_as word_status (parts_of configs default words)

-- the parts of words among these configurations, over the entries of the default one once its names are moved
abbrev pub parts_over : List (List ℕ) → List (List ℕ) → Option (List ℕ) → List EntryLine → Result (List ConfigTargets) Status
parts_over configs words task lines = default_task lines task >>= parts_among configs words

-- The parts of words, with the task of the option `-c`, over the default configuration: the task of targets that name none is its own, for all parts.
abbrev pub parts_under : List (List ℕ) → Option (List ℕ) → Config → Result (List ConfigTargets) Status
parts_under words task made = config_names made >>= λ configs. moved made.lines >>= parts_over configs words task

-- The parts of words, over the paths of all files. They are split before any recipe is read. Of several refusals the first in this order is given: the
-- default configuration, BBMULTICONFIG, the default configuration's names, the default task, the words in their order.
abbrev pub parts_asked : Sources → List (List ℕ) → List (List ℕ) → Option (List ℕ) → Result (List ConfigTargets) Status
parts_asked sources paths words task = read_config sources paths >>= parts_under words task

-- what these targets ask for over all recipes of a configuration
abbrev pub asked_over : Config → List Target → RecipeSet → Result Asked Status
asked_over made targets set = moved made.lines >>= λ lines. Ok (record { set = set; lines = lines; appends = made.appends; targets = targets })

abbrev pub asked_under : Sources → List Target → Config → Result Asked Status
asked_under sources targets made = read_recipes sources made >>= asked_over made targets

-- What a part of a run asks for. Of several refusals the first in this order is given: the default configuration, that of the part, the recipes, the
-- configuration's names.
abbrev pub asked_part : Sources → List (List ℕ) → ConfigTargets → Result Asked Status
asked_part sources paths part = read_named sources paths part.mc >>= asked_under sources part.targets
