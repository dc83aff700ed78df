-- What the maps of a store say of a list of entries.
use Rattle.std.specs.Prelude.{◌≡◌, ℕ, Bool, true, false, not, ◌||◌, List, [], ◌++◌, Option, Some, None, is_some}
use Rattle.std.specs.Option.{option_map, option_or}
use Rattle.std.specs.BTreeMap.{get_by_text}
use Rattle.std.specs.Arc.{arc_value}
use Rattle.meta_model.specs.declared.entry.EntryLine.{EntryLine}
use Rattle.meta_model.specs.Base.{value_slot, flag_slot, lates}
use Rattle.value_maps.specs.declared.maps.Base.{Base}
use Rattle.value_maps.specs.declared.maps.Maps.{Maps}
use Rattle.value_maps.specs.declared.named.Named.{Named}
use Rattle.value_maps.specs.Named.{slot_at, lates_at, flag_at, Steps, IsAlike}
use Rattle.meta_model.specs.Text.{is_in}
use Rattle.value_maps.specs.Forms.{rests, HasForms}
use Rattle.value_maps.specs.Plain.{is_plain}

-- what a store shares with others, if anything
abbrev pub base_of : Maps → Option Base
base_of maps = option_map arc_value maps.base

-- the entries that are shared
abbrev pub under_entries : Option Base → List EntryLine
under_entries None = []
under_entries (Some base) = base.entries.items

-- what the shared entries leave of a name
abbrev pub under_named : Option Base → List ℕ → Option Named
under_named None name = None
under_named (Some base) name = get_by_text base.named name

-- the texts that they let be noted behind a name and a colon
abbrev pub under_noted : Option Base → List ℕ → List (List ℕ)
under_noted None name = []
under_noted (Some base) name = rests (get_by_text base.forms name)

-- what is kept of a name: what is a store's own hides what is shared
abbrev pub named_at : Maps → List ℕ → Option Named
named_at maps name = option_or (get_by_text maps.named name) (under_named (base_of maps) name)

-- the texts that are noted behind a name and a colon
abbrev pub noted_at : Maps → List ℕ → List (List ℕ)
noted_at maps name = under_noted (base_of maps) name ++ rests (get_by_text maps.forms name)

-- the shared names that are told again where names are moved
abbrev pub under_special : Option Base → List (List ℕ)
under_special None = []
under_special (Some base) = base.special

-- a name is told again where names are moved: a store's own, unless what is told of it is what it has, and one of these shared ones
abbrev pub is_anew : Maps → List ℕ → Bool
is_anew maps name = not (is_plain name (get_by_text maps.named name)) || is_in name (under_special (base_of maps))

-- each name that is kept is noted as a form
abbrev pub HasAllForms : Maps → Type 0
HasAllForms maps = (name : List ℕ) → is_some (named_at maps name) ≡ true → HasForms (noted_at maps) name

-- what is shared keeps what the shared entries give
pub record KeepsBase (base : Option Base) : Type 0 where
  pub value : (name : List ℕ) → slot_at (under_named base name) ≡ value_slot (under_entries base) name
  pub late : (name : List ℕ) → lates_at (under_named base name) ≡ lates (under_entries base) name
  pub flags : (name flag : List ℕ) → flag_at (under_named base name) flag ≡ flag_slot (under_entries base) name flag
  pub forms : (name : List ℕ) → is_some (under_named base name) ≡ true → HasForms (under_noted base) name
  pub there : (name : List ℕ) → is_in name (under_special base) ≡ true → is_some (under_named base name) ≡ true
  pub plain : (name : List ℕ) → is_in name (under_special base) ≡ false → is_plain name (under_named base name) ≡ true

-- one more entry
pub record Goes (old new : Maps) (line : EntryLine) : Type 0 where
  pub same : base_of new ≡ base_of old
  pub steps : (name : List ℕ) → Steps (named_at old name) (named_at new name) name line
  pub forms : HasAllForms old → HasAllForms new

-- nothing has changed that is asked of the maps
pub record Stays (old new : Maps) : Type 0 where
  pub same : base_of new ≡ base_of old
  pub alike : (name : List ℕ) → IsAlike (named_at old name) (named_at new name)
  pub forms : HasAllForms old → HasAllForms new

-- Nothing is kept of these names, and of all others what was kept.
pub record IsHidden (old new : Maps) (names : List (List ℕ)) : Type 0 where
  pub same : base_of new ≡ base_of old
  pub noted : (name : List ℕ) → noted_at new name ≡ noted_at old name
  pub none : (name : List ℕ) → is_in name names ≡ true → IsAlike None (named_at new name)
  pub others : (name : List ℕ) → is_in name names ≡ false → named_at new name ≡ named_at old name

-- The maps keep of each name what a list of entries makes of it, and note each of their names as a form.
pub record Keeps (list : List EntryLine) (maps : Maps) : Type 0 where
  pub shared : KeepsBase (base_of maps)
  pub value : (name : List ℕ) → slot_at (named_at maps name) ≡ value_slot list name
  pub late : (name : List ℕ) → lates_at (named_at maps name) ≡ lates list name
  pub flags : (name flag : List ℕ) → flag_at (named_at maps name) flag ≡ flag_slot list name flag
  pub forms : HasAllForms maps
