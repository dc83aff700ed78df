-- What is worked out and written, step by step.
use Rattle.std.specs.Prelude.{◌≡◌, ◌⊎◌, ℕ, List, map, Some, Contains, reverse}
use Rattle.std.specs.List.{AllByRecursion}
use Rattle.std.specs.Option.{is_some}
use Rattle.tree_model.specs.declared.hash.Hash.{Hash}
use Rattle.outside_traits.specs.Store.{Store}
use Rattle.store_model.specs.declared.signature.EquivRow.{EquivRow}
use Rattle.store_model.specs.Origins.{Book, Line}
use Rattle.store_model.specs.Paths.{record_path}
use Rattle.store_model.specs.Readable.{IsReadable}
use Rattle.store_model.specs.Spelling.{key_part}
use Rattle.store_move.specs.Formats.{Format, row_of, rows_of}
use Rattle.store_move.specs.Moves.{AreClear, begun, moved_from, present}
use Rattle.store_opening.specs.Survey.{AreJudged}
use Rattle.record_move.specs.declared.moving.Moved.{Moved}
use Rattle.record_move.specs.declared.records.AddedRecord.{AddedRecord}
use Rattle.record_move.specs.declared.records.OldRecord.{OldRecord}
use Rattle.record_move.specs.Known.{digest, key_named}
use Rattle.record_move.specs.Moved.{AreLinesOf, AreSpelled, IsMoveOf, StandWell}
use Rattle.record_move.specs.Named.{value_at}
use Rattle.record_move.specs.Wanted.{is_named, wanted_of}
use Rattle.store_upgrade.specs.Steps.{ArePut, HoldsKeys, KeysDiffer, NamesDiffer}
use Rattle.store_upgrade.specs.Writes.{AreWritten, IsEarly, Writes}
use Rattle.sstate_mirror.specs.declared.gathering.Gathering.{Gathering as GatheringNow}
use Rattle.sstate_mirror.specs.Brought.{KeepsObjects, StaysBeside}
use Rattle.sstate_mirror.specs.Copying.{AreCopied, HaveOneObject}
use Rattle.sstate_mirror.specs.Wanted.{Titles, asked_of, record_of}

-- ---- wanted records

-- the row is that of a line that can be read
pub record IsRowOf (row : EquivRow) (line : Line) : Type 0 where
  pub readable : IsReadable line
  pub is : row ≡ row_of present line

-- What is kept while rows are gone through from the last one back: the wanted records, and the names that they have.
pub record IsGathered (records : List OldRecord) (g : GatheringNow) : Type 0 where
  pub found : reverse g.found.items ≡ records
  pub noted : (q : Hash) → is_some (value_at g.noted.entries q) ≡ is_named q records

-- The records are the wanted ones of each book of readable lines that has these rows.
abbrev pub AreGathered : Titles → List EquivRow → List OldRecord → Type 0
AreGathered wanted theirs records = (book : Book) → AllByRecursion IsReadable book → theirs ≡ rows_of present book → records ≡ wanted_of (asked_of wanted theirs) (map record_of book)

-- ---- what becomes of them

-- the key of each row is known
abbrev pub AreRowsKnown : List (List ℕ) → List EquivRow → Type 0
AreRowsKnown keys rows = (row : EquivRow) → Contains rows row → key_named keys (digest (key_part row.sig)) ≡ Some (key_part row.sig)

-- The wanted records were moved behind the own ones, whatever books these are the records of.
pub record IsTranslated (wanted : Titles) (theirs own : List EquivRow) (moved : Moved) : Type 0 where
  pub records : List OldRecord
  pub keys : List (List ℕ)
  pub gathered : AreGathered wanted theirs records
  pub known : AreRowsKnown keys own
  pub told : (form : Format) (book start : Book) → AreLinesOf form records book → own ≡ rows_of present start
      → IsMoveOf form start (moved_from form present (begun start) book) moved.rows moved.records.items moved.added.items
  pub clear : (form : Format) (book start : Book) → AreLinesOf form records book → own ≡ rows_of present start → AreSpelled book → StandWell keys start
      → AreClear form present (begun start) book
  pub well : (form : Format) (book start : Book) → AreLinesOf form records book → own ≡ rows_of present start → AreSpelled book → StandWell keys start
      → StandWell moved.keys (moved_from form present (begun start) book).book

-- ... which were believed on the mirror
pub record IsFound (wanted : Titles) (own : List EquivRow) (mirror : Store) (moved : Moved) : Type 0 where
  pub theirs : List EquivRow
  pub judged : AreJudged mirror theirs
  pub translated : IsTranslated wanted theirs own moved

-- ---- what is written

-- Before a record is put nothing changed but objects, temporary files and keys; no object that matched is lost.
pub record IsEarlier (moved : Moved) (held image : Store) : Type 0 where
  pub early : IsEarly moved.added.items held image
  pub kept : HaveOneObject moved.rows → KeepsObjects moved.rows held image

-- no added record is there that wasn't
abbrev pub AreNotPut : Moved → Store → Store → Type 0
AreNotPut moved held image = (a : AddedRecord) → Contains moved.added.items a → image (record_path a.name) ≡ held (record_path a.name)

-- What stands at each moment while it is written. Records come only once each was written where it is written first.
pub record IsWriting (moved : Moved) (held image : Store) : Type 0 where
  pub beside : StaysBeside held image
  pub writes : Writes moved held image
  pub written : AreWritten moved ⊎ AreNotPut moved held image
  pub kept : HaveOneObject moved.rows → KeepsObjects moved.rows held image

-- What stands once it is written, with so many objects that were copied.
pub record IsWritten (moved : Moved) (mirror held now : Store) (count : ℕ) : Type 0 where
  pub writing : IsWriting moved held now
  pub put : NamesDiffer moved.added.items → ArePut moved.added.items now
  pub keyed : KeysDiffer moved.added.items → HoldsKeys moved.added.items now
  pub copied : HaveOneObject moved.rows → AreCopied moved.rows moved.records.items mirror held now count
