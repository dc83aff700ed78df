use Rattle.std.proofs.Common.{◌≡◌, ◌∷◌, take}
use Rattle.project_reading.proofs.graph_faults.with_others.Given as goal

abbrev pub invariant-loop-other : goal.invariant-loop-other
invariant-loop-other l = l.made ≡ l.fn.first ∷ take l.other-index l.others
