use Rattle.std.proofs.Common.{◌≡◌, ◌++◌}
use Rattle.value_maps.specs.Left.{kept_set}
use Rattle.value_maps.specs.Picked.{picked}
use Rattle.value_maps.proofs.telling.flags_of.Given as goal

abbrev pub invariant-loop-flag : goal.invariant-loop-flag
invariant-loop-flag l = l.made ++ picked kept_set l.flag-iterator ≡ picked kept_set l.flags.entries
