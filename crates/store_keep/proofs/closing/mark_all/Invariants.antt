use Rattle.store_keep.specs.Passes.{IsMarkedUpTo}
use Rattle.store_keep.proofs.closing.mark_all.Given as goal

abbrev pub invariant-loop-place : goal.invariant-loop-place
invariant-loop-place l = IsMarkedUpTo l.fn.marks.items l.places l.place-index l.marks.items
