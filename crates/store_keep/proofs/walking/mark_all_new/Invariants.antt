use Rattle.std.proofs.Common.{◌<◌, ℕ, Bool, List, slice_index_or}
use Rattle.std.specs.Prelude.{All}
use Rattle.store_keep.specs.Keep.{IsMarked, LeadsTo}
use Rattle.store_keep.specs.Passes.{IsGrown, IsTrail}
use Rattle.store_keep.proofs.walking.mark_all_new.Given as goal

abbrev pub invariant-loop-place : goal.invariant-loop-place
invariant-loop-place l = record {
  trail : (edges : List (List ℕ)) (first : List Bool) (start : ℕ) → IsTrail edges first start l.fn.trail.items l.fn.marks.items → All (LeadsTo edges start) l.places → IsTrail edges first start l.trail.items l.marks.items;
  marked : (j d : ℕ) → j < l.place-index → IsMarked l.marks.items (slice_index_or l.places j d);
  grows : IsGrown l.fn.trail.items l.fn.marks.items l.trail.items l.marks.items;
}
