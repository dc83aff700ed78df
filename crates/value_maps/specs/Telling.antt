-- Lines that tell what is kept of a name.
use Rattle.std.specs.Prelude.{ℕ, List, [], ◌∷◌, ◌++◌, Option, Some, None, flat_map, String}
use Rattle.std.specs.Global.{Global}
use Rattle.std.specs.BTreeMap.{BTreeMap, get_by_text}
use Rattle.meta_model.specs.declared.entry.EntryLine.{EntryLine}
use Rattle.meta_model.specs.declared.entry.EntryLine.TheVariants.{Set, Flag, UnsetFlag}
use Rattle.meta_model.specs.declared.entry.Op.TheVariants.{Set as Assign, Weak}
use Rattle.meta_model.specs.Slot.{Slot}
use Rattle.meta_model.specs.Frozen.{Move, given, told_flag}
use Rattle.meta_model.specs.Base.{value_slot, flags_of}
use Rattle.value_maps.specs.declared.kept.Kept.{Kept}
use Rattle.value_maps.specs.Kept.{slot_of}

-- a name, and the name to which all that it has goes
abbrev pub move_of : List ℕ × List ℕ → Move
move_of pair = record { source = pair.0; target = pair.1 }

-- the value and the weak default as lines of a name
abbrev pub value_lines : List ℕ → Slot → List EntryLine
value_lines target slot = given (Set target Assign) slot.value ++ given (Set target Weak) slot.weak

-- a flag as lines of a name
abbrev pub flag_lines : List ℕ → List ℕ → Slot → List EntryLine
flag_lines target flag slot = UnsetFlag target flag ∷ (given (Flag target flag Assign) slot.value ++ given (Flag target flag Weak) slot.weak)

-- a flag that is kept, as lines of a name
abbrev pub flag_told : List ℕ → List ℕ → Option Kept → List EntryLine
flag_told target flag None = []
flag_told target flag (Some kept) = flag_lines target flag (slot_of kept)

abbrev pub told_kept : List ℕ → BTreeMap (String Global) Kept → List ℕ → List EntryLine
told_kept target flags flag = flag_told target flag (get_by_text flags flag)

-- the value and the flags of a name as lines of another
abbrev pub named_lines : List EntryLine → Move → List EntryLine
named_lines list move = value_lines move.target (value_slot list move.source) ++ flat_map (told_flag list move) (flags_of list move.source)
