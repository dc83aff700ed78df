-- What every run and mode reads first, or the status that this is refused with.
use Rattle.std.specs.Prelude.{ℕ, List, [], Result, codes}
use Rattle.meta_model.specs.declared.event.Status.{Status}
use Rattle.meta_model.specs.declared.event.Status.TheVariants.{Metadata}
use Rattle.load_model.specs.LoadRefusal.{refused_as}
use Rattle.load_model.specs.Loading.{Sources}
use Rattle.load_model.specs.Layers.{Config, config}
use Rattle.load_model.specs.Facts.{RecipeSet, recipe_set}
use Rattle.answer_model.specs.Said.{layer_status, set_status}

-- what a tool answers to that it hasn't built: none of the calls does
abbrev pub not_built : Status
not_built = Metadata [] 0 (codes "NotBuilt") []

-- the configuration, over the paths of all files
abbrev pub read_config : Sources → List (List ℕ) → Result Config Status
read_config sources paths = refused_as layer_status (config sources paths)

-- all recipes
abbrev pub read_recipes : Sources → Config → Result RecipeSet Status
read_recipes sources made = refused_as set_status (recipe_set sources made.lines made.recipes made.appends)
