use Rattle.std.proofs.Common.{◌≡◌, not, filter, take}
use Rattle.std.specs.BTreeMap.{get_by_text}
use Rattle.value_maps.specs.Plain.{is_plain}
use Rattle.value_maps.proofs.special.special_of.Given as goal

abbrev pub invariant-loop-name : goal.invariant-loop-name
invariant-loop-name l = l.made ≡ filter (λ name. not (is_plain name (get_by_text l.named name))) (take l.name-index l.name-items)
