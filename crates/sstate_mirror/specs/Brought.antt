-- What stands on the own disk while records are brought, and behind that.
use Rattle.std.specs.Prelude.{◌≡◌, ◌≢◌, ◌⊎◌, ◌++◌, ℕ, Bool, true, List, [], ◌∷◌, Contains, None, codes, length}
use Rattle.std.specs.List.{AllByRecursion}
use Rattle.tree_model.specs.Path.{IsAtOrBelow}
use Rattle.outside_traits.specs.Passes.{EachNow}
use Rattle.outside_traits.specs.Store.{Store}
use Rattle.outside_traits.specs.Story.{Story}
use Rattle.meta_model.specs.CleanBuild.{Gives}
use Rattle.store_model.specs.declared.signature.EquivRow.{EquivRow}
use Rattle.store_model.specs.Available.{Matches, object_folder}
use Rattle.store_model.specs.Lines.{HaveSameLines}
use Rattle.store_model.specs.Origins.{Book, Line, Reading}
use Rattle.store_model.specs.Readable.{IsReadable}
use Rattle.store_model.specs.Valid.{IsValid, StandsIn}
use Rattle.store_move.specs.Formats.{rows_of}
use Rattle.store_move.specs.Moves.{HasNoClash, MayMove, Move, ObjectsAreThere, Pair, present}
use Rattle.store_move.specs.Parts.{part}
use Rattle.store_opening.specs.Paths.{IsLaidOut}
use Rattle.store_opening.specs.Survey.{AreJudged}
use Rattle.sstate_mirror.specs.declared.bringing.Brought.{Brought}
use Rattle.sstate_mirror.specs.Wanted.{Titles, wanted_book, whole_move}

-- The disk may be brought to: it is laid out as an opening leaves it, with nothing at `obj`, and what is held is all that a crash leaves.
pub record IsOpen (story : Story) : Type 0 where
  pub laid : IsLaidOut story.held
  pub way : story.held (codes "obj") ≡ None
  pub durable : EachNow story (λ image. image ≡ story.held)

-- Both stores are valid with books of readable lines, whose contents don't clash: the own one, whose rows these are, and the mirror.
pub record HoldBoth (gives : Gives) (reading : Reading) (own : List EquivRow) (held mirror : Store) (start theirs : Book) : Type 0 where
  pub valid : IsValid gives reading held start
  pub readable : AllByRecursion IsReadable start
  pub rows_are : own ≡ rows_of present start
  pub mirror_valid : IsValid gives reading mirror theirs
  pub mirror_readable : AllByRecursion IsReadable theirs
  pub no_clash : HasNoClash present present gives reading theirs start

-- the mirror's lines, in the order in which its records are believed
pub record IsTaken (mirror : Store) (theirs again : Book) : Type 0 where
  pub judged : AreJudged mirror (rows_of present again)
  pub same : HaveSameLines theirs again

-- ---- at each moment

-- the path is none at which anything is written
pub record IsBeside (q : List ℕ) : Type 0 where
  pub records : IsAtOrBelow (codes "rec2") q → ⊥
  pub keys : IsAtOrBelow (codes "key") q → ⊥
  pub objects : IsAtOrBelow (codes "obj") q → ⊥
  pub temporary : IsAtOrBelow (codes "tmp") q → ⊥

-- what is beside is as it was
abbrev pub StaysBeside : Store → Store → Type 0
StaysBeside held image = (q : List ℕ) → IsBeside q → image q ≡ held q

-- The book: all lines that stood, and behind them, in their order, some of those that come. That each stands with all that it names says that the store is
-- valid with it.
pub record IsPartly (wanted : Titles) (mirror : Store) (start theirs now : Book) : Type 0 where
  pub again : Book
  pub taken : IsTaken mirror theirs again
  pub keep : Line → Bool
  pub stood : (before : Book) (line : Line) → StandsIn start before line → keep line ≡ true
  pub is : now ≡ part keep (whole_move wanted again start).book

-- each object of the own records that matched matches still
abbrev pub KeepsObjects : List EquivRow → Store → Store → Type 0
KeepsObjects own held image = (row : EquivRow) → Contains own row → Matches held (object_folder row.unihash) row.manifest → Matches image (object_folder row.unihash) row.manifest

-- What stands at each moment: a store that is valid with the old book or with such a one, whose lines can be read; no object of an own record is lost.
pub record IsMoment (gives : Gives) (reading : Reading) (wanted : Titles) (own : List EquivRow) (mirror held image : Store) (start theirs : Book) : Type 0 where
  pub book : Book
  pub partly : (book ≡ start) ⊎ IsPartly wanted mirror start theirs book
  pub valid : IsValid gives reading image book
  pub readable : AllByRecursion IsReadable book
  pub objects : KeepsObjects own held image

-- ... of each pair of books that the two stores hold
abbrev pub Brings : Titles → List EquivRow → Store → Store → Store → Type 0
Brings wanted own mirror held image = (gives : Gives) (reading : Reading) (start theirs : Book) → HoldBoth gives reading own held mirror start theirs → IsMoment gives reading wanted own mirror held image start theirs

-- ---- behind it

-- An object was written for this pair of lines: the mirror's matched, the own one didn't, and does now.
pub record IsCopied (move : Move) (mirror held now : Store) (pair : Pair) : Type 0 where
  pub among : Contains move.pairs pair
  pub source : Matches mirror (object_folder pair.old.unihash) pair.old.manifest
  pub was_not : Matches held (object_folder pair.new.unihash) pair.old.manifest → ⊥
  pub is : Matches now (object_folder pair.new.unihash) pair.old.manifest

-- no two of these pairs have one object
abbrev pub AreApart : List Pair → Type 0
AreApart [] = Unit {0}
AreApart (pair ∷ pairs) = AllByRecursion (λ (other : Pair). pair.new.unihash ≢ other.new.unihash) pairs × AreApart pairs

-- The number of the objects that were written: of pairs for which one was, each object once, and all of them.
pub record IsCounted (move : Move) (mirror held now : Store) (objects : ℕ) : Type 0 where
  pub copied : List Pair
  pub many : length copied ≡ objects
  pub each : AllByRecursion (IsCopied move mirror held now) copied
  pub apart : AreApart copied
  pub whole : (pair : Pair) → IsCopied move mirror held now pair → (other : Pair) × Contains copied other × (other.new.unihash ≡ pair.new.unihash)

-- All wanted lines came: the store is valid with the book of the whole move, whose rows are handed out, and its lines can be read. Each object that matched on
-- the mirror is there under the unihash that its line has here. The numbers are those of the lines and objects that were written.
pub record IsDone (gives : Gives) (reading : Reading) (wanted : Titles) (own : List EquivRow) (mirror held now : Store) (start theirs : Book) (brought : Brought) : Type 0 where
  pub again : Book
  pub taken : IsTaken mirror theirs again
  pub may : MayMove present present gives reading (wanted_book wanted again) start
  pub more : Book
  pub longer : (whole_move wanted again start).book ≡ start ++ more
  pub many : length more ≡ brought.records
  pub rows_are : brought.rows ≡ rows_of present (whole_move wanted again start).book
  pub valid : IsValid gives reading now (whole_move wanted again start).book
  pub readable : AllByRecursion IsReadable (whole_move wanted again start).book
  pub kept : KeepsObjects own held now
  pub objects : ObjectsAreThere present (whole_move wanted again start) mirror now
  pub counted : IsCounted (whole_move wanted again start) mirror held now brought.objects
