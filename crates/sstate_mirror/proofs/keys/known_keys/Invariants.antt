use Rattle.std.proofs.Common.{take}
use Rattle.sstate_mirror.specs.Steps.{AreRowsKnown}
use Rattle.sstate_mirror.proofs.keys.known_keys.Given as goal

abbrev pub invariant-loop-place : goal.invariant-loop-place
invariant-loop-place l = AreRowsKnown l.keys (take l.place l.rows)
