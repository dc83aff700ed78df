use Rattle.std.proofs.Common.{◌≡◌, map, take}
use Rattle.store_upgrade.specs.Old.{candidate_of}
use Rattle.store_upgrade.proofs.olds.candidates_of.Given as goal

abbrev pub invariant-loop-old : goal.invariant-loop-old
invariant-loop-old l = l.made.items ≡ map candidate_of (take l.old-index l.olds)
