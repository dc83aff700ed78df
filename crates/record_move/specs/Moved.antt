-- What a move makes of the records of the old format.
use Rattle.std.specs.Prelude.{◌≡◌, ◌++◌, ℕ, List}
use Rattle.std.specs.List.{AllZip}
use Rattle.record_move.specs.declared.records.OldRecord.{OldRecord}
use Rattle.store_model.specs.declared.signature.EquivRow.{EquivRow}
use Rattle.store_model.specs.Origins.{Book, Line}
use Rattle.store_model.specs.Sound.{IsSignature}
use Rattle.store_model.specs.Spelled.{IsSpelled}
use Rattle.store_model.specs.Valid.{StandsIn, stored_of}
use Rattle.store_model.specs.Spelling.{name_of}
use Rattle.store_move.specs.Formats.{Format, HasNoneNamed, rows_of}
use Rattle.store_move.specs.Moves.{Move, Pair, present}
use Rattle.record_move.specs.declared.records.AddedRecord.{AddedRecord}
use Rattle.record_move.specs.declared.records.MovedRecord.{MovedRecord}
use Rattle.record_move.specs.Known.{AreKnown}
use Rattle.record_move.specs.Rounds.{AreRounds, IsAddedAs}

-- the candidate is the record of the line
pub record IsLineOf (from : Format) (old : OldRecord) (line : Line) : Type 0 where
  pub name : old.name ≡ from.name_of line.sig
  pub stored : stored_of line ≡ old.stored

-- the candidates are the records of the book's lines, in their order
abbrev pub AreLinesOf : Format → List OldRecord → Book → Type 0
AreLinesOf from olds book = AllZip (IsLineOf from) olds book

-- what is told of one old record: its name and unihash, and those of the line that stands for it
pub record IsPairOf (from : Format) (pair : Pair) (m : MovedRecord) : Type 0 where
  pub old_name : m.old_name ≡ from.name_of pair.old.sig
  pub old_unihash : m.old_unihash ≡ pair.old.unihash
  pub name : m.name ≡ name_of pair.new.sig
  pub unihash : m.unihash ≡ pair.new.unihash

-- What is told of a move behind lines that stood in the new format already: the rows of its whole book, each old record, and the lines that it
-- adds, in their order.
pub record IsMoveOf (from : Format) (start : Book) (move : Move) (rows : List EquivRow) (records : List MovedRecord) (added : List AddedRecord) : Type 0 where
  pub rows_are : rows ≡ rows_of present move.book
  pub each : AllZip (IsPairOf from) move.pairs records
  pub more : Book
  pub longer : move.book ≡ start ++ more
  pub lines : AllZip IsAddedAs more added
  pub in_rounds : AreRounds added

-- What is asked of the lines that stand in the new format, so that two of one name are one: no two have one name, each signature has a
-- spelling, and each key is known.
pub record StandWell (keys : List (List ℕ)) (book : Book) : Type 0 where
  pub new : (before : Book) (line : Line) → StandsIn book before line → HasNoneNamed present before line.sig
  pub sound : (before : Book) (line : Line) → StandsIn book before line → IsSignature line.sig
  pub known : AreKnown keys book

-- the lists of each old line's signature ascend
abbrev pub AreSpelled : Book → Type 0
AreSpelled book = (before : Book) (line : Line) → StandsIn book before line → IsSpelled line.sig
