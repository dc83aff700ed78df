-- Which paths of a store are the own ones of tasks. (Own rules.)
use Rattle.std.specs.Prelude.{◌≡◌, ◌⊎◌, ℕ, List, take, codes, None, Some, Ok}
use Rattle.std.specs.List.{slice_get}
use Rattle.tree_model.specs.Path.{IsAtOrBelow, IsBelow}
use Rattle.outside_traits.specs.Store.{Store}
use Rattle.meta_model.specs.declared.plan.Plan.{Plan}
use Rattle.meta_model.specs.declared.plan.PlanTask.{PlanTask}
use Rattle.meta_model.specs.CleanBuild.{Entries, Gives}
use Rattle.meta_model.specs.declared.event.Logged.{Logged}
use Rattle.tree_model.specs.declared.hash.Hash.{Hash}
use Rattle.store_model.specs.declared.signature.EquivRow.{EquivRow}
use Rattle.store_model.specs.Origins.{Book, Line, rows_of}
use Rattle.store_model.specs.Recording.{recorded}
use Rattle.store_model.specs.Rows.{row_at, unihash_or}
use Rattle.store_model.specs.Signatures.{Signed, signatures}
use Rattle.store_model.specs.Spelling.{name_of}
use Rattle.store_model.specs.Available.{stamp_path, work_folder}
use Rattle.run_model.specs.Books.{book_after}
use Rattle.run_model.specs.CleanOutputs.{Has}

-- the path is at or under the task's work folder, or it is its stamp
abbrev pub IsOfFolder : PlanTask → List ℕ → Type 0
IsOfFolder task q = IsAtOrBelow (work_folder task) q ⊎ (q ≡ stamp_path task)

-- the path is at or under `rec2`, `key` or `obj`, where records, keys and objects are
abbrev pub IsShared : List ℕ → Type 0
IsShared q = IsAtOrBelow (codes "rec2") q ⊎ (IsAtOrBelow (codes "key") q ⊎ IsAtOrBelow (codes "obj") q)

-- The path isn't under `tmp/`; it isn't at or under the work folder of a task of the plan that was touched, nor its stamp, nor is it above that
-- folder, unless nothing was held there; and where one was published it isn't one at which records, keys and objects are, unless it is `obj` and
-- nothing was held there.
pub record IsAside (held : Store) (plan : Plan) (touched published : ℕ → Type 0) (q : List ℕ) : Type 0 where
  pub temporary : IsBelow (codes "tmp") q → ⊥
  pub folder : (t : ℕ) (task : PlanTask) → slice_get plan.tasks t ≡ Some task → touched t → IsOfFolder task q → ⊥
  pub above : (t : ℕ) (task : PlanTask) → slice_get plan.tasks t ≡ Some task → touched t → IsBelow q (work_folder task) → held q ≡ None
  pub output : (t : ℕ) → published t → IsShared q → (q ≡ codes "obj") × (held q ≡ None)

-- Over these rows the task's clean output is published with this unihash: that of its record, where it is stored; else that with which it is
-- recorded.
pub record IsUnihashOver (gives : Gives) (plan : Plan) (rows : List EquivRow) (t : ℕ) (unihash : Hash) : Type 0 where
  pub signed : Signed
  pub is_signed : slice_get (signatures rows plan.tasks) t ≡ Some signed
  pub tree : Entries
  pub clean : Has gives plan.tasks t (Ok tree)
  pub is : unihash ≡ unihash_or (recorded rows signed tree).unihash (row_at rows (name_of signed.sig))

-- The object of the line is none that the run put: where a task of the line's PN and name was published, its output has another unihash, over
-- the rows after each front of the tale.
abbrev pub IsObjectOfNone : Gives → Plan → Book → List Logged → (ℕ → Type 0) → Line → Type 0
IsObjectOfNone gives plan book tale published line = (t : ℕ) (task : PlanTask) → slice_get plan.tasks t ≡ Some task → published t → line.sig.pn ≡ task.id.pn → line.sig.task ≡ task.id.task →
    (k : ℕ) → IsUnihashOver gives plan (rows_of (book_after gives plan book (take k tale))) t line.unihash → ⊥
