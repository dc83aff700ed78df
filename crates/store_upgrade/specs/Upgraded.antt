-- What an upgrade leaves.
use Rattle.std.specs.Prelude.{◌≡◌, ◌≢◌, ◌++◌, ◌∷◌, [], ℕ, Bool, true, false, List, None, Some, codes, find, slice_get}
use Rattle.std.specs.List.{AllByRecursion}
use Rattle.tree_model.specs.declared.entry.Entry.TheVariants.{File}
use Rattle.tree_model.specs.declared.manifest.ManifestLine.{ManifestLine}
use Rattle.tree_model.specs.Hash.{hash_text}
use Rattle.tree_model.specs.Path.{IsAtOrBelow, IsBelow}
use Rattle.outside_traits.specs.Store.{Store, slashes}
use Rattle.meta_model.specs.CleanBuild.{Gives}
use Rattle.meta_model.specs.declared.plan.PlanTask.{PlanTask}
use Rattle.stamp_store.specs.Stamp.{IsFolder}
use Rattle.store_model.specs.Available.{Matches, object_folder, stamp_path, task_folder, work_folder}
use Rattle.store_model.specs.Origins.{Book, Reading}
use Rattle.store_model.specs.Readable.{IsReadable}
use Rattle.store_model.specs.Signatures.{Signed}
use Rattle.store_model.specs.Valid.{IsValid}
use Rattle.store_move.specs.First.{first, first_name}
use Rattle.store_move.specs.Formats.{IsInObject, IsInWork, rows_of, signatures}
use Rattle.store_move.specs.Moves.{HaveNoCollision, MayMove, Move, Pair, is_named, present}
use Rattle.store_move.specs.Stores.{IsDone}
use Rattle.store_model.specs.Spelling.{name_of}
use Rattle.store_upgrade.specs.Halfway.{AreTaken, ClearsOld, HoldsBoth, whole_move}

-- the task's folder is two parts of a path, of at most 511 bytes
pub record HasStampPlace (task : PlanTask) : Type 0 where
  pub folder : IsFolder (task_folder task)
  pub two : slashes (task_folder task) ≡ 1

-- no new unihash of a moved record is the old one of another: two texts with one SHA-256
abbrev pub AreUnihashesApart : Move → Type 0
AreUnihashesApart move = (p q : Pair) → find (is_named first (first_name p.old.sig)) move.pairs ≡ Some p → find (is_named first (first_name q.old.sig)) move.pairs ≡ Some q → p.new.unihash ≢ q.old.unihash

-- What a move brings along: work folders stay, a stamp that named an old record names the one that stands for it, where nothing is held above the task's work
-- folder (opening takes a stamp away where none can be), and an object that matched is there under the new unihash.
pub record IsBrought (move : Move) (held now : Store) : Type 0 where
  pub work : (task : PlanTask) (lines : List ManifestLine) → Matches held (work_folder task) lines → Matches now (work_folder task) lines
  pub stamps : (pair : Pair) → find (is_named first (first_name pair.old.sig)) move.pairs ≡ Some pair → (task : PlanTask) → HasStampPlace task →
      ((q : List ℕ) → IsBelow q (work_folder task) → held q ≡ None) →
      held (stamp_path task) ≡ Some (File false (hash_text (first_name pair.old.sig) ++ 10 ∷ [])) → now (stamp_path task) ≡ Some (File false (hash_text (name_of pair.new.sig) ++ 10 ∷ []))
  pub objects : AreUnihashesApart move → (pair : Pair) → find (is_named first (first_name pair.old.sig)) move.pairs ≡ Some pair →
      Matches held (object_folder pair.old.unihash) pair.old.manifest → Matches now (object_folder pair.new.unihash) pair.old.manifest

-- the whole move of two books: the store is valid with the moved book, whose lines are readable, and what plans had is brought along
pub record IsWholeMove (gives : Gives) (reading : Reading) (held now : Store) (book start : Book) : Type 0 where
  pub olds : Book
  pub again : Book
  pub taken : AreTaken book start olds again
  pub may : MayMove first present gives reading olds again
  pub valid : IsValid gives reading now (whole_move olds again).book
  pub readable : AllByRecursion IsReadable (whole_move olds again).book
  pub brought : IsBrought (whole_move olds again) held now

-- A store of the present format alone: `format` says so. Where it said so at entry, nothing is left at `rec` or under it, and all else is as it was. Else, who
-- had a book of each format has the whole moved one.
pub record IsUpgraded (held now : Store) : Type 0 where
  pub done : IsDone now
  pub was_done : IsDone held → ((q : List ℕ) → IsAtOrBelow (codes "rec") q → now q ≡ None) × ClearsOld held now
  pub moved : (IsDone held → ⊥) → (gives : Gives) (reading : Reading) (book start : Book) → HoldsBoth gives reading held book start → IsWholeMove gives reading held now book start

-- ---- law

-- A task of a plan that was available in the first format is so in the same way behind the move, where neither it nor a task below it collided there.
abbrev pub UpgradedIsAvailable : Type 0
UpgradedIsAvailable = (gives : Gives) (reading : Reading) (held now : Store) (olds again : Book) → MayMove first present gives reading olds again → IsBrought (whole_move olds again) held now →
    (tasks : List PlanTask) (keep : PlanTask → Bool) → HaveNoCollision first olds tasks keep → (n : ℕ) (s later : Signed) →
    slice_get (signatures first (rows_of first olds) tasks) n ≡ Some s → slice_get (signatures present (rows_of present (whole_move olds again).book) tasks) n ≡ Some later → keep s.task ≡ true → (setscene : Bool) →
    (HasStampPlace s.task → IsInWork first held (rows_of first olds) s → IsInWork present now (rows_of present (whole_move olds again).book) later)
    × (AreUnihashesApart (whole_move olds again) → IsInObject first held (rows_of first olds) setscene s → IsInObject present now (rows_of present (whole_move olds again).book) setscene later)
