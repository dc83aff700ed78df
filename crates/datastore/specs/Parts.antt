-- Entries whose names were moved between some and others.
use Rattle.std.specs.Prelude.{List, ◌++◌}
use Rattle.std.specs.Global.{Vec}
use Rattle.meta_model.specs.declared.entry.EntryLine.{EntryLine}
use Rattle.datastore.specs.Anew.{moved}

-- more entries, and all names moved then
abbrev pub moved_with : List EntryLine → Vec EntryLine → List EntryLine
moved_with list part = moved (list ++ part.items)
