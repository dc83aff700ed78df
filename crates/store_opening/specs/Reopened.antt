-- What opening keeps: a valid store with the lines of its book, what its plan may reuse, and what is available.
use Rattle.std.specs.Prelude.{◌≡◌, ℕ, Bool, List, None, Some, codes}
use Rattle.std.specs.List.{AllByRecursion}
use Rattle.tree_model.specs.declared.entry.Entry.{Entry}
use Rattle.outside_traits.specs.Store.{Store}
use Rattle.meta_model.specs.declared.plan.PlanTask.{PlanTask}
use Rattle.meta_model.specs.CleanBuild.{Gives}
use Rattle.store_model.specs.declared.signature.EquivRow.{EquivRow}
use Rattle.store_model.specs.Available.{IsInObject, IsInWork}
use Rattle.store_model.specs.Origins.{Book, Reading, rows_of}
use Rattle.store_model.specs.Reuse.{MayReuse}
use Rattle.store_model.specs.Signatures.{Signed}
use Rattle.store_model.specs.Valid.{IsValid, IsValidBook}
use Rattle.store_model.specs.Opened.{HasNoLitter, HasWay, IsOpened}
use Rattle.store_model.specs.Readable.{IsReadable}
use Rattle.store_model.specs.Lines.{HaveSameLines}
use Rattle.store_opening.specs.Opening.{Clears}
use Rattle.store_opening.specs.Paths.{HasPlace}

-- Where what is held is valid with a book of readable lines, opening takes no record away: at each moment a store is valid with the
-- book that it was valid with.
abbrev pub ClearedIsValid : Type 0
ClearedIsValid = (held old new : Store) → Clears held old new → (gives : Gives) (reading : Reading) (book : Book) → IsValid gives reading held book → AllByRecursion IsReadable book →
    (other : Book) → IsValid gives reading old other → IsValid gives reading new other

-- a book of the same lines, which are readable, with which the store is valid and whose rows these are
pub record IsBookAgain (gives : Gives) (reading : Reading) (book : Book) (after : Store) (rows : List EquivRow) : Type 0 where
  pub again : Book
  pub same : HaveSameLines book again
  pub readable : AllByRecursion IsReadable again
  pub valid : IsValid gives reading after again
  pub rows_are : rows ≡ rows_of again

-- What was valid with a book of readable lines is so once it is opened, and the rows are those of its lines.
abbrev pub OpenedIsValid : Type 0
OpenedIsValid = (before after : Store) (rows : List EquivRow) → IsOpened before after rows →
    (gives : Gives) (reading : Reading) (book : Book) → IsValid gives reading before book → AllByRecursion IsReadable book → IsBookAgain gives reading book after rows

-- What is held decides the rows and their order.
abbrev pub OpenedOneWay : Type 0
OpenedOneWay = (before after other : Store) (rows others : List EquivRow) → IsOpened before after rows → IsOpened before other others → rows ≡ others

-- what the second store holds the first one holds too
abbrev pub HoldsNoMore : Store → Store → Type 0
HoldsNoMore old new = (q : List ℕ) (entry : Entry) → new q ≡ Some entry → old q ≡ Some entry

-- Opening puts nothing.
abbrev pub OpenedHoldsNoMore : Type 0
OpenedHoldsNoMore = (before after : Store) (rows : List EquivRow) → IsOpened before after rows → HoldsNoMore before after

-- A plan may reuse any valid book of the same lines, and over a store that holds no more.
abbrev pub ReuseAgain : Type 0
ReuseAgain = (gives : Gives) (reading : Reading) (held less : Store) (book again : Book) (tasks : List PlanTask) → MayReuse gives reading held book tasks → HaveSameLines book again → IsValidBook gives reading again → HoldsNoMore held less →
    MayReuse gives reading less again tasks

-- A task is available in a store that was opened just as it was before, but for an object where something stood at `obj`.
pub record StaysThere (before after : Store) (rows : List EquivRow) (setscene : Bool) (s : Signed) : Type 0 where
  pub work : IsInWork before rows s → IsInWork after rows s
  pub no_more_work : IsInWork after rows s → IsInWork before rows s
  pub object : IsInObject before rows setscene s → IsInObject after rows setscene s
  pub no_more_objects : before (codes "obj") ≡ None → IsInObject after rows setscene s → IsInObject before rows setscene s

-- What is available once a store is opened is what was available before, and in the same way, by whatever rows.
abbrev pub OpenedStays : Type 0
OpenedStays = (before after : Store) (rows : List EquivRow) → IsOpened before after rows →
    (others : List EquivRow) (setscene : Bool) (s : Signed) → HasPlace s.task → StaysThere before after others setscene s

-- Opening makes way for folders, and leaves no litter.
abbrev pub OpenedHasWay : Type 0
OpenedHasWay = (before after : Store) (rows : List EquivRow) → IsOpened before after rows → HasWay after × HasNoLitter after
