use Rattle.std.proofs.Common.{◌≡◌, ◌++◌, List, length, drop}
use Rattle.record_move.specs.declared.records.OldRecord.{OldRecord}
use Rattle.record_move.specs.Wanted.{IsWanting, wanted_of}
use Rattle.record_move.proofs.backward.wanted.Given as goal

abbrev pub invariant-loop-old : goal.invariant-loop-old
invariant-loop-old l = record {
  rest : List OldRecord;
  whole : l.left.items ++ rest ≡ l.fn.olds.items;
  wanting : IsWanting (wanted_of (drop (length l.left.items) l.asked) rest) l.wanting;
}

abbrev pub decreases-loop-old : goal.decreases-loop-old
decreases-loop-old l = length l.left.items
