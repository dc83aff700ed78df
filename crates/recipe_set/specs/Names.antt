-- What the name of a recipe's file says.
use Rattle.load_model.specs.Recipes.{FileName as Meant}
use Rattle.recipe_set.specs.declared.names.FileName.{FileName}

abbrev pub name_meant : FileName → Meant
name_meant name = record { pn = name.pn; pv = name.pv; pr = name.pr }
