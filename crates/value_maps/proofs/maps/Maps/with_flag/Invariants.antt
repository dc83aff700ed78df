use Rattle.std.proofs.Common.{◌≡◌, filter, take}
use Rattle.value_maps.specs.Flagged.{is_flagged}
use Rattle.value_maps.specs.Maps.{named_at}
use Rattle.value_maps.proofs.maps.Maps.with_flag.Given as goal

abbrev pub invariant-loop-name : goal.invariant-loop-name
invariant-loop-name l = l.made ≡ filter (λ t. is_flagged l.flag (named_at l.self t)) (take l.name-index l.names)
