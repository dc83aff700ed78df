use Rattle.std.proofs.Common.{◌≡◌, ℕ, Bool, false, List, length, slice_index_or}
use Rattle.std.specs.Prelude.{Contains}
use Rattle.store_keep.specs.Keep.{IsMarked}
use Rattle.store_keep.specs.Passes.{IsTakenBack}
use Rattle.store_keep.proofs.walking.take_back.Given as goal

abbrev pub invariant-loop-place : goal.invariant-loop-place
invariant-loop-place l = record {
  long : length l.marks.items ≡ length l.fn.marks.items;
  back : (first : List Bool) → length l.fn.marks.items ≡ length first → ((v : ℕ) → IsMarked first v → IsMarked l.fn.marks.items v)
      → ((v : ℕ) → Contains l.trail v → slice_index_or first v false ≡ false) → IsTakenBack first l.fn.marks.items l.trail l.place-index l.marks.items;
}
