-- What `unset` left of a name.
use Rattle.std.specs.Prelude.{Bool, not, ◌||◌}
use Rattle.std.specs.BTreeMap.{values}
use Rattle.std.specs.List.{list_any}
use Rattle.meta_model.specs.Text.{is_empty}
use Rattle.meta_model.specs.Slot.{is_set}
use Rattle.value_maps.specs.declared.kept.Kept.{Kept}
use Rattle.value_maps.specs.declared.named.Named.{Named}
use Rattle.value_maps.specs.Kept.{slot_of}

-- a value or a weak default is kept
abbrev pub kept_set : Kept → Bool
kept_set kept = is_set (slot_of kept)

-- something of a name is kept
abbrev pub named_left : Named → Bool
named_left named = is_set (slot_of named.kept) || (not (is_empty named.lates.items) || list_any kept_set (values named.flags))
