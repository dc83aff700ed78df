-- The chosen recipes and what they say, in their parts.
use Rattle.std.specs.Prelude.{ℕ, List, Result}
use Rattle.meta_model.specs.declared.entry.EntryLine.{EntryLine}
use Rattle.load_model.specs.Loading.{Sources}
use Rattle.load_model.specs.Recipes.{FileName as Meant, Recipe, SetRefusal, recipe_read}
use Rattle.recipe_set.specs.declared.names.FileName.{FileName}
use Rattle.recipe_set.specs.Names.{name_meant}

-- a file and what its name says
abbrev pub file_meant : List ℕ × FileName → List ℕ × Meant
file_meant file = (file.0, name_meant file.1)

-- the recipe of a file
abbrev pub file_read : Sources → List EntryLine → List (List ℕ) → List ℕ × Meant → Result Recipe SetRefusal
file_read sources config appends file = recipe_read sources config appends file.0 file.1
