use Rattle.std.proofs.Common.{◌≡◌, drop, map}
use Rattle.load_model.specs.Recipes.{names_of_files}
use Rattle.meta_model.specs.Passing.{behind}
use Rattle.recipe_set.specs.Chosen.{file_meant}
use Rattle.recipe_set.proofs.files.files_named.Given as goal

abbrev pub invariant-loop-path : goal.invariant-loop-path
invariant-loop-path l = names_of_files l.paths ≡ behind (map file_meant l.made.items) (names_of_files (drop l.path-index l.paths))
