use Rattle.std.proofs.Common.{◌≡◌, ◌≤◌, take}
use Rattle.store_keep.specs.Tries.{marked_in}
use Rattle.store_clean.proofs.clearing.numbers.Given as goal

abbrev pub invariant-loop-mark : goal.invariant-loop-mark
invariant-loop-mark l = record {
  counted : l.kept ≡ marked_in (take l.mark-index l.marks);
  small : l.kept ≤ l.mark-index;
}
