-- What assignments make of a value or of a flag.
use Rattle.std.specs.Prelude.{ℕ, Bool, false, List, [], ◌∷◌, ◌++◌, Option, Some, None, unwrap_or, is_some, ◌||◌}
use Rattle.std.specs.Option.{option_or}
use Rattle.meta_model.specs.declared.entry.Op.{Op}
use Rattle.meta_model.specs.declared.entry.Op.TheVariants.{Set, Now, Soft, Weak, AddBlank, PutBlank, Add, Put}
use Rattle.meta_model.specs.Text.{space}

-- What a name, or a flag of a name, has: the value, the weak default, and whether EXPORT_FUNCTIONS put the value there.
pub record Slot : Type 0 where
  pub value : Option (List ℕ)
  pub weak : Option (List ℕ)
  pub exported : Bool

abbrev pub nothing : Slot
nothing = record { value = None; weak = None; exported = false }

-- a new value, which EXPORT_FUNCTIONS didn't put there
abbrev pub with_value : List ℕ → Slot → Slot
with_value text slot = record { value = Some text; weak = slot.weak; exported = false }

-- The old value is empty where there is none. It is never the weak default.
abbrev pub old : Slot → List ℕ
old slot = unwrap_or slot.value []

abbrev pub with_soft : List ℕ → Slot → Option (List ℕ) → Slot
with_soft text slot None = with_value text slot
with_soft text slot (Some _) = slot

-- The operators (BitBake User Manual, "Syntax and Operators", sections "Basic Variable Setting", "Setting a default value
-- (?=)", "Setting a weak default value (??=)", "Immediate variable expansion (:=)", "Appending (+=) and prepending (=+) With
-- Spaces", "Appending (.=) and Prepending (=.) Without Spaces"). The text of `:=` comes here expanded. A weak default
-- replaces an earlier one, and `+=` and its like never take one up.
abbrev pub assigned : Op → List ℕ → Slot → Slot
assigned Set text slot = with_value text slot
assigned Now text slot = with_value text slot
assigned Soft text slot = with_soft text slot slot.value
assigned Weak text slot = record { value = slot.value; weak = Some text; exported = slot.exported }
assigned AddBlank text slot = with_value (old slot ++ (space ∷ text)) slot
assigned PutBlank text slot = with_value (text ++ (space ∷ old slot)) slot
assigned Add text slot = with_value (old slot ++ text) slot
assigned Put text slot = with_value (text ++ old slot) slot

-- At the end the weak default stands where no value does.
abbrev pub at_end : Slot → Option (List ℕ)
at_end slot = option_or slot.value slot.weak

-- a value or a weak default is there
abbrev pub is_set : Slot → Bool
is_set slot = is_some slot.value || is_some slot.weak
