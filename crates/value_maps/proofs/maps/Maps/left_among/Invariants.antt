use Rattle.std.proofs.Common.{◌≡◌, List, filter, take}
use Rattle.meta_model.specs.declared.entry.EntryLine.{EntryLine}
use Rattle.meta_model.specs.Base.{is_left}
use Rattle.value_maps.specs.Maps.{Keeps}
use Rattle.value_maps.proofs.maps.Maps.left_among.Given as goal

abbrev pub invariant-loop-name : goal.invariant-loop-name
invariant-loop-name l = (list : List EntryLine) → Keeps list l.self → l.made ≡ filter (is_left list) (take l.name-index l.keys)
