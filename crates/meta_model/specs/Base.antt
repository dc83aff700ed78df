-- Base values, flags and late entries of a name, by folds over the whole list of entries.
use Rattle.std.specs.Prelude.{ℕ, Bool, true, not, ◌||◌, ◌&&◌, List, [], ◌∷◌, ◌++◌, Option, Some, None, is_some, fold, filter, filter_map, flat_map, codes, bytes_eq, if◌then◌else◌}
use Rattle.meta_model.specs.declared.entry.EntryLine.{EntryLine}
use Rattle.meta_model.specs.declared.entry.EntryLine.TheVariants.{Set, Later, Flag, Unset, UnsetFlag, Exported}
use Rattle.meta_model.specs.declared.entry.LateLine.{LateLine}
use Rattle.meta_model.specs.Text.{is_empty, in_byte_order}
use Rattle.meta_model.specs.Slot.{Slot, nothing, with_value, assigned, at_end, is_set}

-- EXPORT_FUNCTIONS gives a value where there is none, or replaces one that it put there and that nobody changed since; a
-- weak default alone is no value (own rule).
abbrev pub may_export : Slot → Bool
may_export slot = slot.exported || not (is_some slot.value)

-- The value that EXPORT_FUNCTIONS gives to a function of a class calls the class's own one: four spaces, the class, `_`, the
-- function and a newline (own rule; the use is that of the manual's section "Flexible Inheritance for Class Functions").
abbrev pub exported_call : List ℕ → List ℕ → List ℕ
exported_call class name = codes "    " ++ (class ++ (codes "_" ++ (name ++ codes "\n")))

abbrev pub exported : List ℕ → List ℕ → Slot → Slot
exported class name slot = record { value = Some (exported_call class name); weak = slot.weak; exported = true }

-- What one entry makes of the value of a name. `unset` takes value and weak default away (own rule: of exactly that name, and
-- entries that come later count again; the manual's section is "Unsetting variables").
abbrev pub value_after : List ℕ → Slot → EntryLine → Slot
value_after name slot (Set n op text) = if bytes_eq n name then assigned op text slot else slot
value_after name slot (Exported class n) = if bytes_eq n name && may_export slot then exported class name slot else slot
value_after name slot (Unset n) = if bytes_eq n name then nothing else slot
value_after name slot _ = slot

-- what a list of entries makes of the value of a name
abbrev pub value_slot : List EntryLine → List ℕ → Slot
value_slot list name = fold (value_after name) nothing list

-- The base value of a name.
abbrev pub base : List EntryLine → List ℕ → Option (List ℕ)
base list name = at_end (value_slot list name)

-- What one entry makes of a flag of a name, whose value stands as the first slot says. Flags are assigned like values
-- ("Variable Flag Syntax"); EXPORT_FUNCTIONS sets the flag `func` where it gives a value; `unset` of the name takes its flags away.
abbrev pub flag_after : List ℕ → List ℕ → Slot → Slot → EntryLine → Slot
flag_after name flag value slot (Flag n f op text) = if bytes_eq n name && bytes_eq f flag then assigned op text slot else slot
flag_after name flag value slot (Exported class n) = if bytes_eq n name && (may_export value && bytes_eq flag (codes "func")) then with_value (codes "1") slot else slot
flag_after name flag value slot (Unset n) = if bytes_eq n name then nothing else slot
flag_after name flag value slot (UnsetFlag n f) = if bytes_eq n name && bytes_eq f flag then nothing else slot
flag_after name flag value slot _ = slot

abbrev pub flag_from : List ℕ → List ℕ → Slot → Slot → List EntryLine → Slot
flag_from name flag value slot [] = slot
flag_from name flag value slot (line ∷ rest) = flag_from name flag (value_after name value line) (flag_after name flag value slot line) rest

-- what a list of entries makes of a flag of a name
abbrev pub flag_slot : List EntryLine → List ℕ → List ℕ → Slot
flag_slot list name flag = flag_from name flag nothing nothing list

-- The flag of a name: its text, unexpanded.
abbrev pub flag : List EntryLine → List ℕ → List ℕ → Option (List ℕ)
flag list name f = at_end (flag_slot list name f)

-- what one entry makes of the late entries of a name
abbrev pub lates_after : List ℕ → List LateLine → EntryLine → List LateLine
lates_after name lates (Later target kind when text) = if bytes_eq target name then lates ++ (record { kind = kind; when = when; text = text } ∷ []) else lates
lates_after name lates (Unset n) = if bytes_eq n name then [] else lates
lates_after name lates _ = lates

-- The late entries of a name, in order; `unset` took the earlier ones away (own rule).
abbrev pub lates : List EntryLine → List ℕ → List LateLine
lates list name = fold (lates_after name) [] list

-- the name that an entry gives a value, a late entry or a flag
abbrev pub name_of : EntryLine → Option (List ℕ)
name_of (Set name op text) = Some name
name_of (Later target kind when text) = Some target
name_of (Flag name f op text) = Some name
name_of (Exported class name) = Some name
name_of _ = None

abbrev pub names_in : List EntryLine → List (List ℕ)
names_in list = filter_map name_of list

-- the flag that an entry gives to a name, where it gives one
abbrev pub flag_in : List ℕ → EntryLine → List (List ℕ)
flag_in name (Flag n f op text) = if bytes_eq n name then f ∷ [] else []
flag_in name (Exported class n) = if bytes_eq n name then codes "func" ∷ [] else []
flag_in name _ = []

-- The flags that a name has, in byte order.
abbrev pub flags_of : List EntryLine → List ℕ → List (List ℕ)
flags_of list name = in_byte_order (filter (λ f. is_set (flag_slot list name f)) (flat_map (flag_in name) list))

-- `unset` left something of the name: a value, a weak default, a flag or a late entry
abbrev pub is_left : List EntryLine → List ℕ → Bool
is_left list name = is_set (value_slot list name) || (not (is_empty (lates list name)) || not (is_empty (flags_of list name)))

-- The names of a list of entries, in byte order.
abbrev pub names : List EntryLine → List (List ℕ)
names list = in_byte_order (filter (is_left list) (names_in list))
