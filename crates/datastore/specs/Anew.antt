-- What is told again where names are moved.
use Rattle.std.specs.Prelude.{◌≡◌, List, [], filter, Result, Ok, Err}
use Rattle.meta_model.specs.declared.entry.EntryLine.{EntryLine}
use Rattle.meta_model.specs.Refusal.{Refusal}
use Rattle.meta_model.specs.Base.{names}
use Rattle.meta_model.specs.Frozen.{Move, moves, told_all, frozen}
use Rattle.value_maps.specs.declared.maps.Maps.{Maps}
use Rattle.datastore.specs.declared.freeze.Anew.{Anew}
use Rattle.value_maps.specs.Keys.{AreKeys}
use Rattle.value_maps.specs.Maps.{is_anew}
use Rattle.datastore.specs.Telling.{parted}

-- the entries with their names moved; where this is refused, as they are
abbrev pub or_given : List EntryLine → Result (List EntryLine) Refusal → List EntryLine
or_given list (Ok made) = made
or_given list (Err refusal) = list

abbrev pub moved : List EntryLine → List EntryLine
moved list = or_given list (frozen list)

-- the names that are told again, and their lines: of those that stay, and of those that move
pub record IsAnew (list : List EntryLine) (maps : Maps) (anew : Anew) : Type 0 where
  pub keys : AreKeys anew.names (is_anew maps)
  pub all : List Move
  pub goes : moves list (filter (is_anew maps) (names list)) ≡ Ok all
  pub told : parted [] [] (told_all list all) ≡ Ok (anew.staying.items, anew.moving.items)
