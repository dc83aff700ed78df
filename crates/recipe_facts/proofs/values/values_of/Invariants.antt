use Rattle.std.proofs.Common.{◌≡◌, drop, filter}
use Rattle.meta_model.specs.Text.{begins_with}
use Rattle.load_model.specs.Facts.{values_behind}
use Rattle.meta_model.specs.Passing.{behind}
use Rattle.recipe_facts.proofs.values.values_of.Given as goal

abbrev pub invariant-loop-name : goal.invariant-loop-name
invariant-loop-name l = values_behind l.store l.front (filter (begins_with l.front) l.names) ≡ behind l.list (values_behind l.store l.front (filter (begins_with l.front) (drop l.name-index l.names)))
