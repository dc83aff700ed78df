use Rattle.std.proofs.Common.{◌≤◌, length}
use Rattle.store_keep.specs.Passes.{IsPassed}
use Rattle.store_keep.proofs.closing.closure.Given as goal

abbrev pub invariant-loop-next : goal.invariant-loop-next
invariant-loop-next l = record {
  passed : IsPassed l.edges l.fn.roots.items l.marks.items l.next;
  within : l.next ≤ length l.edges;
}

abbrev pub decreases-loop-next : goal.decreases-loop-next
decreases-loop-next l = l.next
