-- What the maps of a store give for a name under active overrides.
use Rattle.std.specs.Prelude.{ℕ, Bool, ◌&&◌, List, ◌∷◌, ◌++◌, Option, Some, None, is_some, filter, option_to_list, codes}
use Rattle.std.specs.Option.{option_map}
use Rattle.meta_model.specs.declared.entry.EntryLine.{EntryLine}
use Rattle.meta_model.specs.declared.entry.Late.TheVariants.{Remove}
use Rattle.meta_model.specs.declared.value.Resolved.{Resolved}
use Rattle.meta_model.specs.Text.{colon}
use Rattle.meta_model.specs.Slot.{at_end}
use Rattle.meta_model.specs.Base.{base, lates}
use Rattle.meta_model.specs.Overrides.{texts_of, with_lates}
use Rattle.override_eval.specs.LateValue.{late_value}
use Rattle.override_eval.specs.Winner.{is_counted}
use Rattle.value_maps.specs.declared.maps.Maps.{Maps}
use Rattle.value_maps.specs.declared.named.Named.{Named}
use Rattle.value_maps.specs.Named.{slot_at, lates_at, flag_at}
use Rattle.value_maps.specs.Maps.{named_at, noted_at}

-- the own value, with the removes that count
abbrev pub own_at : List (List ℕ) → Option Named → Option Resolved
own_at active named = late_value active (at_end (slot_at named)) (lates_at named)

-- the form of a name with these parts
abbrev pub form_of : List ℕ → List ℕ → List ℕ
form_of name rest = name ++ (colon ∷ rest)

-- what is noted is a form: its parts are active, and its own value is present
abbrev pub is_present : Maps → List (List ℕ) → List ℕ → List ℕ → Bool
is_present maps active name rest = is_counted active rest && is_some (own_at active (named_at maps (form_of name rest)))

abbrev pub present_forms : Maps → List (List ℕ) → List ℕ → List (List ℕ)
present_forms maps active name = filter (is_present maps active name) (noted_at maps name)

-- the own value of a form, where there is one
abbrev pub own_of : List EntryLine → List (List ℕ) → Option (List ℕ) → Option Resolved
own_of list active None = None
own_of list active (Some form) = late_value active (base list form) (lates list form)

-- a flag with its name, where it is set
abbrev pub told_flag : Option Named → List ℕ → List (List ℕ × List ℕ)
told_flag named flag = option_to_list (option_map (λ text. (flag, text)) (at_end (flag_at named flag)))

-- a value with the late entries of its name, the removes behind others, and the two flags that are told
abbrev pub joined_at : List (List ℕ) → Option Named → Option (List ℕ) → List (List ℕ) → Option Resolved
joined_at active named value removes = option_map
    (λ text. record { text = text; removes = removes ++ texts_of Remove active (lates_at named); flags = told_flag named (codes "export") ++ told_flag named (codes "func") })
    (with_lates active (lates_at named) value)
