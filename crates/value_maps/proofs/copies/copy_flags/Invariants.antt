use Rattle.std.proofs.Common.{◌≡◌, ℕ, List, take, if◌then◌else◌}
use Rattle.std.specs.BTreeMap.{get_by_text}
use Rattle.meta_model.specs.Text.{is_in}
use Rattle.meta_model.specs.Slot.{nothing}
use Rattle.value_maps.specs.Kept.{flag_kept}
use Rattle.value_maps.proofs.copies.copy_flags.Given as goal

-- the flags whose names are gone through
abbrev pub invariant-loop-name : goal.invariant-loop-name
invariant-loop-name l = (f : List ℕ) → flag_kept (get_by_text l.made f) ≡ (if is_in f (take l.name-index l.name-items) then flag_kept (get_by_text l.flags f) else nothing)
