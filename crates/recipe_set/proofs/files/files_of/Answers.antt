use Rattle.std.proofs.Common.{map, arith}
use Rattle.recipe_set.specs.Chosen.{file_meant}
use Rattle.recipe_set.proofs.Setting.{names_length, map_length}
use Rattle.recipe_set.proofs.files.files_of.Goals as goal

pub returns-clause-few : goal.returns-clause-few
returns-clause-few c =
    let named = names_length c.args.paths.now (map file_meant c.in_ok-files.files.items) c.in_ok-files.ensures.ok in
    let all = map_length file_meant c.in_ok-files.files.items in
    omega (arith, named, all, c.if-paths-gt-MOST_RECIPES.false)
