-- What follows for valid stores, and for other tasks.
use Rattle.std.specs.Prelude.{◌≡◌, ◌≢◌, ◌⊎◌, ℕ, true, List, [], ◌∷◌, ◌++◌, Option, Some}
use Rattle.tree_model.specs.declared.hash.Hash.{Hash}
use Rattle.tree_model.specs.declared.manifest.ManifestLine.{ManifestLine}
use Rattle.tree_model.specs.Path.{IsAtOrBelow, inside}
use Rattle.outside_traits.specs.Store.{Store}
use Rattle.meta_model.specs.declared.plan.PlanTask.{PlanTask}
use Rattle.meta_model.specs.CleanBuild.{Gives}
use Rattle.store_model.specs.declared.signature.EquivRow.{EquivRow}
use Rattle.store_model.specs.Available.{IsInWork, Matches, object_folder, task_folder}
use Rattle.store_model.specs.Origins.{Book, Line, Reading}
use Rattle.store_model.specs.Premises.{Differ}
use Rattle.store_model.specs.Signatures.{Signed}
use Rattle.store_model.specs.Spelling.{key_name, name_of}
use Rattle.store_model.specs.Valid.{IsValid, IsValidBook, IsValidLine, StandsIn, key_file, stored_of}
use Rattle.store_model.specs.Publication.{record_file, Publication}
use Rattle.store_model.specs.Lines.{HasLine, KeepsWork}
use Rattle.store_opening.specs.Paths.{HasPlace, IsOnePart}
use Rattle.build_store.specs.Publication.{KeepsOthers, Publishes}

-- the publication's record and key are those of the line
pub record IsOfLine (p : Publication) (line : Line) : Type 0 where
  pub name : p.name ≡ name_of line.sig
  pub file : p.file ≡ record_file (stored_of line)
  pub key : p.key ≡ key_name line.sig.key
  pub key_file : p.key_file ≡ key_file line.sig.key

-- Where a key is written, no line of the book has one of its name.
abbrev pub WritesNewKey : Publication → Book → Type 0
WritesNewKey p book = p.writes_key ≡ true → (before : Book) (line : Line) → StandsIn book before line → key_name line.sig.key ≢ p.key

-- A publication keeps a store valid, with the same book or with its line behind it, where the line stands in the book or is valid
-- behind it, and where no key of the book is written again.
abbrev pub PublishedIsValid : Type 0
PublishedIsValid = (p : Publication) (line : Line) (old new : Store) → IsOfLine p line → Publishes p old new →
    (gives : Gives) (reading : Reading) (book : Book) → IsValid gives reading old book → WritesNewKey p book →
    HasLine book line ⊎ IsValidLine gives reading book line →
    IsValid gives reading new book ⊎ IsValid gives reading new (book ++ line ∷ [])

-- ---- other tasks

-- all at or under the folder of the object is as before
pub record KeepsObject (unihash : Hash) (old new : Store) : Type 0 where
  pub object : (q : List ℕ) → IsAtOrBelow (object_folder unihash) q → new q ≡ old q

-- A publication, or a restoring, of a task leaves the stamp and the work folder of each other task as they were.
abbrev pub OthersUntouched : Type 0
OthersUntouched = (p : Publication) (of other : PlanTask) (old new : Store) → HasPlace of → HasPlace other → Differ other of → p.folder ≡ task_folder of → Publishes p old new →
    KeepsWork (task_folder other) old new

-- the line's PN and task are each one part of a path
pub record HasLinePlace (line : Line) : Type 0 where
  pub pn : IsOnePart line.sig.pn
  pub task : IsOnePart line.sig.task

-- the publication's folder is that of the line's task, and its object that of the line's unihash, if it has one
pub record IsOfTask (p : Publication) (line : Line) : Type 0 where
  pub folder : p.folder ≡ inside line.sig.pn line.sig.task
  pub object : (unihash : Hash) → p.object ≡ Some unihash → unihash ≡ line.unihash

-- the stamp, the work folder and the object of the line's task are as before
pub record KeepsOutput (line : Line) (old new : Store) : Type 0 where
  pub folder : KeepsWork (inside line.sig.pn line.sig.task) old new
  pub shared : KeepsObject line.unihash old new

-- A publication, or a restoring, of a line that stands in a valid book, or is valid behind it, leaves the stamp, the work folder and
-- the object of each line of the book as they were that has another PN or another task.
abbrev pub OthersStay : Type 0
OthersStay = (p : Publication) (line other : Line) (old new : Store) → IsOfTask p line → Publishes p old new →
    (gives : Gives) (reading : Reading) (book : Book) → IsValidBook gives reading book → HasLine book line ⊎ IsValidLine gives reading book line → HasLine book other →
    HasLinePlace line → HasLinePlace other → (other.sig.pn ≡ line.sig.pn → other.sig.task ≡ line.sig.task → ⊥) → KeepsOutput other old new

-- Another task that was available by its work folder, in what was held and in an image, is so in what a publication or a restoring
-- makes of that image: an output without entries too.
abbrev pub OthersInWorkStay : Type 0
OthersInWorkStay = (of : PlanTask) (object : Option Hash) (held old new : Store) → KeepsOthers (task_folder of) object held old new → HasPlace of →
    (rows : List EquivRow) (s : Signed) → HasPlace s.task → Differ s.task of → IsInWork held rows s → IsInWork old rows s → IsInWork new rows s

-- And so does the object of a line of another task match a manifest still.
abbrev pub OthersObjectsStay : Type 0
OthersObjectsStay = (line other : Line) (folder : List ℕ) (object : Option Hash) (held old new : Store) → KeepsOthers folder object held old new → ((unihash : Hash) → object ≡ Some unihash → unihash ≡ line.unihash) →
    (gives : Gives) (reading : Reading) (book : Book) → IsValidBook gives reading book → HasLine book line ⊎ IsValidLine gives reading book line → HasLine book other →
    (other.sig.pn ≡ line.sig.pn → other.sig.task ≡ line.sig.task → ⊥) →
    (lines : List ManifestLine) → Matches held (object_folder other.unihash) lines → Matches old (object_folder other.unihash) lines → Matches new (object_folder other.unihash) lines
