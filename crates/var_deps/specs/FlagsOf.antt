-- The flags of a name of a store.
use Rattle.std.specs.Prelude.{◌≡◌, ℕ, List}
use Rattle.meta_model.specs.declared.entry.EntryLine.{EntryLine}
use Rattle.meta_model.specs.Base.{flag}
use Rattle.value_maps.specs.declared.all_flags.AllFlags.{AllFlags}
use Rattle.value_maps.specs.FlagsTold.{flag_told}

pub record AreFlags (flags : AllFlags) (store : List EntryLine) (name : List ℕ) : Type 0 where
  pub told : (f : List ℕ) → flag_told flags f ≡ flag store name f
