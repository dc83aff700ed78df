use Rattle.std.proofs.Common.{◌≡◌, ◌++◌, flat_map, take}
use Rattle.value_maps.specs.Telling.{told_kept}
use Rattle.value_maps.proofs.telling.push_flags.Given as goal

abbrev pub invariant-loop-name : goal.invariant-loop-name
invariant-loop-name l = l.lines.items ≡ l.fn.lines.items ++ flat_map (told_kept l.target l.flags) (take l.name-index l.names)
