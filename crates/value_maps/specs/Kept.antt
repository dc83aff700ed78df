-- What a store keeps of a name, as the definitions see it.
use Rattle.std.specs.Prelude.{ℕ, true, List, Option, Some, None}
use Rattle.meta_model.specs.Slot.{Slot, nothing}
use Rattle.value_maps.specs.declared.kept.Kept.{Kept}

abbrev pub slot_of : Kept → Slot
slot_of kept = record { value = kept.value; weak = kept.weak; exported = kept.exported }

-- the value that EXPORT_FUNCTIONS gives
abbrev pub with_call : List ℕ → Slot → Slot
with_call call slot = record { value = Some call; weak = slot.weak; exported = true }

-- the value of a flag of which this is kept, if anything
abbrev pub flag_kept : Option Kept → Slot
flag_kept None = nothing
flag_kept (Some kept) = slot_of kept
