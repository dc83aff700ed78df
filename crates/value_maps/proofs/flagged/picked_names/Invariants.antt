use Rattle.std.proofs.Common.{◌≡◌, ◌++◌}
use Rattle.value_maps.specs.Flagged.{has_flag}
use Rattle.value_maps.specs.Picked.{picked}
use Rattle.value_maps.proofs.flagged.picked_names.Given as goal

abbrev pub invariant-loop-name : goal.invariant-loop-name
invariant-loop-name l = l.made ++ picked (has_flag l.flag) l.name-iterator ≡ picked (has_flag l.flag) l.named.entries
