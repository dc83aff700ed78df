-- Flags that have a text.
use Rattle.std.specs.Prelude.{ℕ, Bool, List, Option, Some, is_some}
use Rattle.meta_model.specs.Slot.{at_end}
use Rattle.value_maps.specs.declared.named.Named.{Named}
use Rattle.value_maps.specs.Named.{flag_at}

-- the flag of a name of which this is kept has a text
abbrev pub is_flagged : List ℕ → Option Named → Bool
is_flagged flag named = is_some (at_end (flag_at named flag))

abbrev pub has_flag : List ℕ → Named → Bool
has_flag flag named = is_flagged flag (Some named)
