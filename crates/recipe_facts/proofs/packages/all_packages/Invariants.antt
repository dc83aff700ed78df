use Rattle.std.proofs.Common.{◌≡◌, drop}
use Rattle.load_model.specs.Facts.{all_packages}
use Rattle.meta_model.specs.Passing.{behind}
use Rattle.recipe_facts.proofs.packages.all_packages.Given as goal

abbrev pub invariant-loop-name : goal.invariant-loop-name
invariant-loop-name l = all_packages l.store l.provided l.needed l.names ≡ behind l.made (all_packages l.store l.provided l.needed (drop l.name-index l.names))
