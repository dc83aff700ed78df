use Rattle.std.proofs.Common.{◌≡◌, ◌++◌, filter, take}
use Rattle.value_maps.specs.Found.{is_present}
use Rattle.value_maps.proofs.maps.Maps.push_presents.Given as goal

abbrev pub invariant-loop-rest : goal.invariant-loop-rest
invariant-loop-rest l = l.list ≡ l.fn.list ++ filter (is_present l.self l.active l.name) (take l.rest-index l.rests)
