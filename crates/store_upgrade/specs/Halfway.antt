-- What stands while the records of a store are moved.
use Rattle.std.specs.Prelude.{◌≡◌, ◌⊎◌, ℕ, Bool, true, List, codes}
use Rattle.std.specs.List.{AllByRecursion}
use Rattle.tree_model.specs.Path.{IsAtOrBelow}
use Rattle.outside_traits.specs.Store.{Store}
use Rattle.meta_model.specs.CleanBuild.{Gives}
use Rattle.store_model.specs.Lines.{HaveSameLines}
use Rattle.store_model.specs.Opened.{IsElsewhere}
use Rattle.store_model.specs.Origins.{Book, Line, Reading}
use Rattle.store_model.specs.Readable.{HasShortPaths, IsReadable}
use Rattle.store_model.specs.Valid.{IsValid, StandsIn, stored_of}
use Rattle.store_move.specs.First.{SpellsFirst, first, first_record, first_shape, second_keys, second_shape}
use Rattle.store_move.specs.Moves.{HasNoClash, Move, begun, moved_from, present}
use Rattle.store_move.specs.Parts.{part}
use Rattle.store_move.specs.Stores.{HoldsBook, IsDone, IsStore}

-- The line's record in the first format has a spelling, and its manifest has short paths: opening takes its file for a record.
pub record IsOldReadable (line : Line) : Type 0 where
  pub spelled : SpellsFirst (first_record (stored_of line)) (stored_of line)
  pub short : HasShortPaths line.manifest

-- A store with a book of readable lines in each format, of which no contents clash.
pub record HoldsBoth (gives : Gives) (reading : Reading) (held : Store) (book start : Book) : Type 0 where
  pub old : HoldsBook first_shape gives reading held book
  pub old_readable : AllByRecursion IsOldReadable book
  pub new : IsValid gives reading held start
  pub new_readable : AllByRecursion IsReadable start
  pub no_clash : HasNoClash first present gives reading book start

-- the path is none that a move or a clearing up touches: it stands elsewhere, and neither at nor under `obj` or `format`
pub record IsBeside (q : List ℕ) : Type 0 where
  pub elsewhere : IsElsewhere q
  pub no_object : IsAtOrBelow (codes "obj") q → ⊥
  pub no_format : IsAtOrBelow (codes "format") q → ⊥

-- The lines of both books in the orders in which opening takes them.
pub record AreTaken (book start olds again : Book) : Type 0 where
  pub old_lines : HaveSameLines book olds
  pub lines : HaveSameLines start again

abbrev pub whole_move : Book → Book → Move
whole_move olds again = moved_from first present (begun again) olds

-- Some lines of the whole moved book: all that stood before, and of those that were moved some, in their order. That each stands with those that it names
-- says that they are a valid book.
pub record IsHalfMoved (book start now : Book) : Type 0 where
  pub olds : Book
  pub again : Book
  pub taken : AreTaken book start olds again
  pub keep : Line → Bool
  pub stood : (before : Book) (line : Line) → StandsIn again before line → keep line ≡ true
  pub is : now ≡ part keep (whole_move olds again).book

-- What stands at each moment while a store that isn't of the present format alone is brought to it: all beside is as it was, and who had a book of each
-- format has a valid store, with the book of the present format or some of the moved one, and with the old one unless `format` says that nothing of it counts.
pub record Upgrades (held image : Store) : Type 0 where
  pub beside : (q : List ℕ) → IsBeside q → image q ≡ held q
  pub books : (gives : Gives) (reading : Reading) (book start : Book) → HoldsBoth gives reading held book start →
      (now : Book) × ((now ≡ start) ⊎ IsHalfMoved book start now) × IsStore first_shape second_shape second_keys gives reading image now

-- What stands at each moment where `format` said so at entry: what is neither at `rec` nor under it is as it was.
abbrev pub ClearsOld : Store → Store → Type 0
ClearsOld held image = (q : List ℕ) → (IsAtOrBelow (codes "rec") q → ⊥) → image q ≡ held q

-- ... at each moment in either case; before anything is written nothing has changed
abbrev pub IsAlong : Store → Store → Type 0
IsAlong held image = (image ≡ held) ⊎ ((IsDone held × ClearsOld held image) ⊎ ((IsDone held → ⊥) × Upgrades held image))
