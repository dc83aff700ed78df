-- What a store keeps of its entries.
use Rattle.std.specs.Prelude.{List, fold, ◌++◌, Option, IfSome}
use Rattle.std.specs.Global.{Vec}
use Rattle.meta_model.specs.declared.entry.EntryLine.{EntryLine}
use Rattle.value_maps.specs.declared.maps.Maps.{Maps}
use Rattle.datastore.specs.declared.looked.Overrides.{Overrides}
use Rattle.value_maps.specs.Maps.{Keeps, base_of, under_entries}
use Rattle.datastore.specs.Looked.{AreOf}
use Rattle.datastore.specs.Parts.{moved_with}

-- the entries that are shared, with names moved behind each of the lists in between, and behind them a store's own
abbrev pub all_entries : Maps → List (Vec EntryLine) → List EntryLine → List EntryLine
all_entries maps past own = fold moved_with (under_entries (base_of maps)) past ++ own

-- The maps keep what the entries give, and active overrides that are kept are those of the entries.
pub record IsStore (list : List EntryLine) (maps : Maps) (settled : Option Overrides) : Type 0 where
  pub keeps : Keeps list maps
  pub settles : IfSome settled (AreOf list)
