-- Which records of a mirror are wanted, and what stands for them in the own store.
use Rattle.std.specs.Prelude.{ℕ, Bool, List, map, bytes_eq, ◌&&◌}
use Rattle.std.specs.List.{list_any}
use Rattle.store_model.specs.declared.signature.EquivRow.{EquivRow}
use Rattle.store_model.specs.Origins.{Book, Line}
use Rattle.store_model.specs.Spelling.{name_of}
use Rattle.store_model.specs.Valid.{stored_of}
use Rattle.store_move.specs.Formats.{rows_of}
use Rattle.store_move.specs.Moves.{Move, begun, moved_from, present}
use Rattle.record_move.specs.declared.records.OldRecord.{OldRecord}
use Rattle.record_move.specs.Wanted.{wanted_lines}

-- PNs with the names of tasks
abbrev pub Titles : Type 0
Titles = List (List ℕ × List ℕ)

-- the row is that of a wanted PN and task
abbrev pub is_wanted : Titles → EquivRow → Bool
is_wanted wanted row = list_any (λ (t : List ℕ × List ℕ). bytes_eq t.0 row.pn && bytes_eq t.1 row.task) wanted

-- of each row whether it is
abbrev pub asked_of : Titles → List EquivRow → List Bool
asked_of wanted rows = map (is_wanted wanted) rows

-- the record of a line
abbrev pub record_of : Line → OldRecord
record_of line = record { name = name_of line.sig; stored = stored_of line }

-- The wanted lines of a book, in their order: those of a wanted PN and task, and all that these name, as needed tasks or by their unihashes.
abbrev pub wanted_book : Titles → Book → Book
wanted_book wanted again = wanted_lines present (asked_of wanted (rows_of present again)) again

-- The wanted lines come behind those that stand here, one after another, each in the names that stand here: each needed task is named by the unihash that the
-- line has here which came for the one that it named; files, key and manifest stay; the unihash is that of a new record. Where a line of such a signature
-- stands already it counts as the one that came, and none is added. (Own rule.)
abbrev pub whole_move : Titles → Book → Book → Move
whole_move wanted again start = moved_from present present (begun start) (wanted_book wanted again)
