use Rattle.std.proofs.Common.{◌≡◌, map, take}
use Rattle.store_clean.specs.Steps.{named_place}
use Rattle.store_clean.proofs.deciding.places_of.Given as goal

abbrev pub invariant-loop-one : goal.invariant-loop-one
invariant-loop-one l = l.places.items ≡ map named_place (take l.one-index l.named)
