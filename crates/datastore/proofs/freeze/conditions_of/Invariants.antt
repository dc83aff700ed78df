use Rattle.std.proofs.Common.{◌≡◌, drop}
use Rattle.meta_model.specs.Frozen as frozen
use Rattle.meta_model.specs.Passing.{behind}
use Rattle.datastore.proofs.freeze.conditions_of.Given as goal

abbrev pub invariant-loop-text : goal.invariant-loop-text
invariant-loop-text l = frozen.conditions l.store l.when ≡ behind l.made (frozen.conditions l.store (drop l.text-index l.when))
