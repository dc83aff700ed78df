-- What bringing records of a mirror to a store that is opened first does to the disk.
use Rattle.std.specs.Prelude.{◌≡◌, ◌⊎◌, ◌++◌, ℕ, List}
use Rattle.std.specs.List.{AllByRecursion}
use Rattle.outside_traits.specs.Passes.{Passes}
use Rattle.outside_traits.specs.Store.{Store}
use Rattle.outside_traits.specs.Story.{Story}
use Rattle.meta_model.specs.CleanBuild.{Gives}
use Rattle.store_model.specs.Lines.{HaveSameLines}
use Rattle.store_model.specs.Opened.{IsLeft, IsOpened}
use Rattle.store_model.specs.Origins.{Book, Reading}
use Rattle.store_model.specs.Readable.{IsReadable}
use Rattle.store_model.specs.Valid.{IsValid}
use Rattle.store_move.specs.Formats.{rows_of}
use Rattle.store_move.specs.Moves.{present}
use Rattle.sstate_mirror.specs.declared.bringing.Brought.{Brought}
use Rattle.sstate_mirror.specs.Brought.{HoldBoth, IsBeside, IsDone, IsPartly, KeepsObjects}
use Rattle.sstate_mirror.specs.Wanted.{Titles}

-- The own store and the mirror are valid with books of readable lines, whose contents don't clash.
abbrev pub HoldStores : Gives → Reading → Store → Store → Book → Book → Type 0
HoldStores gives reading held mirror start theirs = HoldBoth gives reading (rows_of present start) held mirror start theirs

-- ---- at each moment

-- What opening leaves alone is as it was, where nothing that comes is written.
abbrev pub StaysApart : Store → Store → Type 0
StaysApart held image = (q : List ℕ) → IsLeft held q → IsBeside q → image q ≡ held q

-- A store that is valid with the lines that stood, in some order, or with these and behind them some of those that come; its lines can be read, and no object of
-- an own record is lost.
pub record IsBringing (gives : Gives) (reading : Reading) (wanted : Titles) (mirror held image : Store) (start theirs : Book) : Type 0 where
  pub again : Book
  pub same : HaveSameLines start again
  pub book : Book
  pub partly : (book ≡ again) ⊎ IsPartly wanted mirror again theirs book
  pub lines : Book
  pub longer : book ≡ again ++ lines
  pub valid : IsValid gives reading image book
  pub readable : AllByRecursion IsReadable book
  pub objects : KeepsObjects (rows_of present again) held image

-- ... of each pair of books that the two stores hold
abbrev pub BringsTo : Titles → Store → Store → Store → Type 0
BringsTo wanted mirror held image = (gives : Gives) (reading : Reading) (start theirs : Book) → HoldStores gives reading held mirror start theirs → IsBringing gives reading wanted mirror held image start theirs

-- What was done to a disk since it held this: what it is to leave alone it did; and where the mirror tells, each moment left the store on the way.
pub record KeepsOnTheWay (tells : Type 0) (wanted : Titles) (mirror held : Store) (begin now : Story) : Type 0 where
  pub apart : Passes begin now (λ earlier image. StaysApart held image)
  pub moments : tells → Passes begin now (λ earlier image. BringsTo wanted mirror held image)

-- ---- behind it

-- The store was opened, with its lines in an order that what it held decides, and then all wanted lines came.
pub record IsBroughtIn (gives : Gives) (reading : Reading) (wanted : Titles) (mirror held now : Store) (start theirs : Book) (brought : Brought) : Type 0 where
  pub again : Book
  pub same : HaveSameLines start again
  pub opened : Store
  pub is_opened : IsOpened held opened (rows_of present again)
  pub done : IsDone gives reading wanted (rows_of present again) mirror opened now again theirs brought
