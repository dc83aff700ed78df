-- The configuration, as the code has it.
use Rattle.std.specs.Prelude.{◌≡◌, ℕ, List, Result, Ok, filter_map}
use Rattle.load_model.specs.Paths.{path_named}
use Rattle.load_model.specs.Layers.{LayerRefusal, Configured as MeantLayers, Config as Meant}
use Rattle.layer_conf.specs.declared.reads.Config.{Config}
use Rattle.layer_conf.specs.declared.reads.Configured.{Configured}

abbrev pub config_meant : Config → Meant
config_meant made = record { lines = made.store; layers = made.layers; recipes = made.recipes; appends = made.appends }

abbrev pub configured_meant : Configured → MeantLayers
configured_meant made = record { lines = made.store; layers = made.layers }

-- the paths that words name, which are no refusal
pub record AreGlobs (globs : List (List ℕ)) (words : Result (List (List ℕ)) LayerRefusal) : Type 0 where
  pub list : List (List ℕ)
  pub are : words ≡ Ok list
  pub named : globs ≡ filter_map path_named list

-- the configuration with these lists
abbrev pub listed_meant : Configured → List (List ℕ) → List (List ℕ) → Meant
listed_meant made recipes appends = record { lines = made.store; layers = made.layers; recipes = recipes; appends = appends }
