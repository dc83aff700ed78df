-- A move that is going on.
use Rattle.std.specs.Prelude.{◌≡◌, ℕ, List, Option, Some, None, find, length}
use Rattle.tree_model.specs.declared.hash.Hash.{Hash}
use Rattle.record_move.specs.declared.records.OldRecord.{OldRecord}
use Rattle.store_model.specs.declared.signature.EquivRow.{EquivRow}
use Rattle.store_model.specs.Origins.{Book}
use Rattle.store_move.specs.Formats.{Format, rows_of}
use Rattle.store_move.specs.Moves.{AreClear, begun, is_named, Move, moved_from, Pair, present}
use Rattle.record_move.specs.declared.moving.Moving.{Moving as MovingNow}
use Rattle.record_move.specs.Adding.{AreFew, AreRoundsOf}
use Rattle.record_move.specs.Moved.{AreLinesOf, AreSpelled, IsMoveOf, StandWell}
use Rattle.record_move.specs.Known.{KnowMore}
use Rattle.record_move.specs.Named.{value_at}

abbrev pub new_name : Option Pair → Option Hash
new_name None = None
new_name (Some pair) = Some pair.new.unihash

-- What is kept of a move: what is told of it, the unihashes by old names, and the rounds by new ones.
pub record IsGoing (from : Format) (start : Book) (move : Move) (m : MovingNow) : Type 0 where
  pub told : IsMoveOf from start move m.rows m.records.items m.adding.added.items
  pub names : (name : Hash) → value_at m.names.entries name ≡ new_name (find (is_named from name) move.pairs)
  pub rounds : AreRoundsOf m.adding.added.items m.adding.rounds.entries

-- How far a move has come behind these rows and known keys: the first records were moved.
pub record IsSoFar (rows : List EquivRow) (keys : List (List ℕ)) (olds : List OldRecord) (m : MovingNow) : Type 0 where
  pub going : (from : Format) (book start : Book) → AreLinesOf from olds book → rows ≡ rows_of present start → IsGoing from start (moved_from from present (begun start) book) m
  pub clear : (from : Format) (book start : Book) → AreLinesOf from olds book → rows ≡ rows_of present start → AreSpelled book → StandWell keys start → AreClear from present (begun start) book
  pub well : (from : Format) (book start : Book) → AreLinesOf from olds book → rows ≡ rows_of present start → AreSpelled book → StandWell keys start → StandWell m.keys (moved_from from present (begun start) book).book
  pub keys_more : KnowMore keys olds m.keys
  pub few : AreFew m.adding.rounds.entries (length m.adding.added.items)
