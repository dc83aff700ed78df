-- What a store keeps of a name, and one more entry.
use Rattle.std.specs.Prelude.{◌≡◌, ℕ, List, [], Option, Some, None}
use Rattle.std.specs.BTreeMap.{get_by_text}
use Rattle.meta_model.specs.declared.entry.EntryLine.{EntryLine}
use Rattle.meta_model.specs.declared.entry.EntryLine.TheVariants.{Set, Later, Flag, Unset, UnsetFlag, Exported, Task, NoTask}
use Rattle.meta_model.specs.declared.entry.LateLine.{LateLine}
use Rattle.meta_model.specs.Slot.{Slot, nothing}
use Rattle.meta_model.specs.Base.{value_after, flag_after, lates_after}
use Rattle.value_maps.specs.declared.named.Named.{Named}
use Rattle.value_maps.specs.Kept.{slot_of, flag_kept}

-- the value of a name of which this is kept, if anything
abbrev pub slot_at : Option Named → Slot
slot_at None = nothing
slot_at (Some named) = slot_of named.kept

-- its late entries
abbrev pub lates_at : Option Named → List LateLine
lates_at None = []
lates_at (Some named) = named.lates.items

-- a flag of it
abbrev pub flag_at : Option Named → List ℕ → Slot
flag_at None flag = nothing
flag_at (Some named) flag = flag_kept (get_by_text named.flags flag)

-- what is kept of a name goes on as an entry says
pub record Steps (old new : Option Named) (name : List ℕ) (line : EntryLine) : Type 0 where
  pub value : slot_at new ≡ value_after name (slot_at old) line
  pub late : lates_at new ≡ lates_after name (lates_at old) line
  pub flags : (flag : List ℕ) → flag_at new flag ≡ flag_after name flag (slot_at old) (flag_at old flag) line

-- two say the same of a name
pub record IsAlike (old new : Option Named) : Type 0 where
  pub value : slot_at new ≡ slot_at old
  pub late : lates_at new ≡ lates_at old
  pub flags : (flag : List ℕ) → flag_at new flag ≡ flag_at old flag

-- the name that an entry is of; of entries of tasks the task, which is no name
abbrev pub subject : EntryLine → List ℕ
subject (Set name op text) = name
subject (Later target kind when text) = target
subject (Flag name flag op text) = name
subject (Unset name) = name
subject (UnsetFlag name flag) = name
subject (Exported class name) = name
subject (Task task after before) = task
subject (NoTask task) = task
