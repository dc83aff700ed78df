-- What is told of all flags of a name.
use Rattle.std.specs.Prelude.{ℕ, List, Option}
use Rattle.std.specs.Option.{option_copied}
use Rattle.meta_model.specs.Slot.{at_end}
use Rattle.value_maps.specs.declared.all_flags.AllFlags.{AllFlags}
use Rattle.value_maps.specs.Named.{flag_at}

-- a flag, unexpanded
abbrev pub flag_told : AllFlags → List ℕ → Option (List ℕ)
flag_told flags flag = at_end (flag_at (option_copied flags.named) flag)
