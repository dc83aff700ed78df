use Rattle.std.proofs.Common.{◌≡◌, map, drop}
use Rattle.meta_model.specs.Frozen as frozen
use Rattle.value_maps.specs.Telling.{move_of}
use Rattle.datastore.specs.Telling.{parted}
use Rattle.datastore.proofs.freeze.push_moves.Given as goal

abbrev pub invariant-loop-pair : goal.invariant-loop-pair
invariant-loop-pair l = parted l.fn.staying.items l.fn.moving.items (frozen.told_all l.store (map move_of l.moves)) ≡ parted l.staying.items l.moving.items (frozen.told_all l.store (map move_of (drop l.pair-index l.moves)))
