use Rattle.std.proofs.Common.{◌≤◌, ◌-◌, length}
use Rattle.store_keep.specs.Keep.{IsMarked}
use Rattle.store_keep.specs.Passes.{AreDone, IsTrail}
use Rattle.store_keep.proofs.walking.marked_from.Given as goal

abbrev pub invariant-loop-next : goal.invariant-loop-next
invariant-loop-next l = record {
  trail : IsTrail l.edges l.fn.marks.items l.start l.trail.items l.marks.items;
  start : IsMarked l.marks.items l.start;
  done : AreDone l.edges l.trail.items l.next l.marks.items;
  within : l.next ≤ length l.trail.items;
}

abbrev pub decreases-loop-next : goal.decreases-loop-next
decreases-loop-next l = l.room - l.next
