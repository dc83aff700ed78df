-- What a move leaves, and what it leaves where it is stopped.
use Rattle.std.specs.Prelude.{ℕ, Bool, List}
use Rattle.meta_model.specs.CleanBuild.{Gives}
use Rattle.store_model.specs.declared.signature.EquivRow.{EquivRow}
use Rattle.store_model.specs.Origins.{Book, Line, Reading}
use Rattle.store_model.specs.Sound.{IsSignature}
use Rattle.store_model.specs.Valid.{StandsIn}
use Rattle.store_move.specs.Formats.{Format, IsValidBook}
use Rattle.store_move.specs.Moves.{AreClear, begun, HasNoClash, MayMove, moved_from, present}
use Rattle.store_move.specs.Parts.{part}
use Rattle.record_move.specs.declared.records.AddedRecord.{AddedRecord}
use Rattle.record_move.specs.declared.records.MovedRecord.{MovedRecord}
use Rattle.record_move.specs.Known.{AreKnown}
use Rattle.record_move.specs.Moved.{AreSpelled, IsMoveOf, StandWell}
use Rattle.record_move.specs.Rounds.{IsInRound}

-- The lines of two valid books, of which those that stand in the new format have a spelling and known keys, are as a move asks; and where no
-- contents of the two clash and the move met no collision, they may be moved.
pub record AreAsAsked (from : Format) (gives : Gives) (reading : Reading) (keys : List (List ℕ)) (book start : Book) : Type 0 where
  pub spelled : AreSpelled book
  pub well : StandWell keys start
  pub may : HasNoClash from present gives reading book start → AreClear from present (begun start) book → MayMove from present gives reading book start

abbrev pub ValidAreAsAsked : Type 0
ValidAreAsAsked = (from : Format) (gives : Gives) (reading : Reading) (keys : List (List ℕ)) (book start : Book) → IsValidBook from gives reading book → IsValidBook present gives reading start →
    ((before : Book) (line : Line) → StandsIn start before line → IsSignature line.sig) → AreKnown keys start → AreAsAsked from gives reading keys book start

-- The whole book of a move is valid; and so is, where it was stopped in a round, what stands then.
pub record LeavesValid (gives : Gives) (reading : Reading) (start whole more : Book) (added : List AddedRecord) : Type 0 where
  pub whole_valid : IsValidBook present gives reading whole
  pub stopped : (round : ℕ) (keep : Line → Bool) → IsInRound start more added round keep → IsValidBook present gives reading (part keep whole)

abbrev pub MoveLeavesValid : Type 0
MoveLeavesValid = (from : Format) (gives : Gives) (reading : Reading) (book start : Book) (rows : List EquivRow) (records : List MovedRecord) (added : List AddedRecord) → MayMove from present gives reading book start →
    (told : IsMoveOf from start (moved_from from present (begun start) book) rows records added) → LeavesValid gives reading start (moved_from from present (begun start) book).book told.more added
