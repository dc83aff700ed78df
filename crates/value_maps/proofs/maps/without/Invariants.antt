use Rattle.std.proofs.Common.{take}
use Rattle.std.specs.BTreeMap.{get_by_text}
use Rattle.value_maps.specs.Hidden.{AreEmpty}
use Rattle.value_maps.proofs.maps.without.Given as goal

abbrev pub invariant-loop-name : goal.invariant-loop-name
invariant-loop-name l = AreEmpty (get_by_text l.fn.named) (get_by_text l.made) (take l.name-index l.names)
