use Rattle.std.proofs.Common.{◌≡◌, ◌++◌}
use Rattle.std.specs.Vec.Iter.{into_iter_items}
use Rattle.record_move.specs.Going.{IsSoFar}
use Rattle.record_move.proofs.moving.move_records.Given as goal

abbrev pub invariant-loop-old : goal.invariant-loop-old
invariant-loop-old l = record {
  whole : l.yielded ++ into_iter_items l.old-iterator ≡ l.fn.olds.items;
  so_far : IsSoFar l.fn.rows l.fn.keys l.yielded l.moving;
}
