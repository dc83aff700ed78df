use Rattle.std.proofs.Common.{◌≡◌, map, drop}
use Rattle.meta_model.specs.Frozen as frozen
use Rattle.value_maps.specs.Telling.{move_of}
use Rattle.meta_model.specs.Passing.{behind}
use Rattle.datastore.proofs.freeze.moves_of.Given as goal

abbrev pub invariant-loop-name : goal.invariant-loop-name
invariant-loop-name l = frozen.moves l.store l.names ≡ behind (map move_of l.made.items) (frozen.moves l.store (drop l.name-index l.names))
