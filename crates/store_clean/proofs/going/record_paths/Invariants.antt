use Rattle.std.proofs.Common.{take}
use Rattle.store_clean.proofs.Down.{ArePathsTo}
use Rattle.store_clean.proofs.going.record_paths.Given as goal

abbrev pub invariant-loop-place : goal.invariant-loop-place
invariant-loop-place l = ArePathsTo l.nodes (take l.place-index l.places) l.paths.items
