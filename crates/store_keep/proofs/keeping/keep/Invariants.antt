use Rattle.std.proofs.Common.{◌≡◌, length, take}
use Rattle.store_keep.specs.Keep.{AreClosed}
use Rattle.store_keep.specs.Tries.{AreKept, marked_in}
use Rattle.store_keep.proofs.keeping.keep.Given as goal

abbrev pub invariant-loop-place : goal.invariant-loop-place
invariant-loop-place l = record {
  kept : AreKept l.edges l.fn.roots.items (take l.place-index l.order) l.limit l.kept.marks.items;
  long : length l.kept.marks.items ≡ length l.edges;
  count : l.kept.count ≡ marked_in l.kept.marks.items;
  closed : AreClosed l.edges l.kept.marks.items;
}
