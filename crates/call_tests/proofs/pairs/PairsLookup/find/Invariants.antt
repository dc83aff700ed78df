use Rattle.std.proofs.Common.{◌≡◌, drop}
use Rattle.call_tests.specs.Pairs.{found}
use Rattle.call_tests.proofs.pairs.PairsLookup.find.Given as goal

abbrev pub invariant-loop-pair : goal.invariant-loop-pair
invariant-loop-pair l = found l.pair-items l.name ≡ found (drop l.pair-index l.pair-items) l.name
