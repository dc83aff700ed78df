use Rattle.std.proofs.Common.{◌≡◌, ◌++◌, true}
use Rattle.value_maps.specs.Picked.{picked}
use Rattle.value_maps.proofs.by_name.names_of.Given as goal

abbrev pub invariant-loop-name : goal.invariant-loop-name
invariant-loop-name g l = l.made ++ picked (λ there. true) l.name-iterator ≡ picked (λ there. true) l.map.entries
