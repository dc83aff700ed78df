-- What the configuration says of recipes.
use Rattle.load_model.specs.Facts.{Wishes as Meant}
use Rattle.recipe_facts.specs.declared.of_config.Wishes.{Wishes}

-- what the code's record says
abbrev pub wished : Wishes → Meant
wished made = record { assumed = made.assumed; providers = made.providers; versions = made.versions }
