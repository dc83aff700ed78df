use Rattle.std.proofs.Common.{take}
use Rattle.store_clean.specs.Deciding.{AreRoots}
use Rattle.store_clean.specs.Steps.{node_names}
use Rattle.store_clean.proofs.deciding.root_marks.Given as goal

abbrev pub invariant-loop-root : goal.invariant-loop-root
invariant-loop-root l = AreRoots (node_names l.nodes) (take l.root-index l.roots) l.marks.items
