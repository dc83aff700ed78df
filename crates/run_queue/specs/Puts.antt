-- What publishing the output of a task of the plan does, or a turn of restoring it.
use Rattle.std.specs.Prelude.{◌≡◌, ℕ, List, Some, None, Ok}
use Rattle.std.specs.List.{slice_get}
use Rattle.outside_traits.specs.Passes.{Passes}
use Rattle.outside_traits.specs.Story.{Story}
use Rattle.meta_model.specs.declared.plan.PlanTask.{PlanTask}
use Rattle.meta_model.specs.CleanBuild.{Built, Entries, Gives, clean_build}
use Rattle.store_model.specs.declared.signature.EquivRow.{EquivRow}
use Rattle.store_model.specs.Signatures.{Signed, signatures}
use Rattle.store_model.specs.Available.{task_folder}
use Rattle.store_model.specs.Readable.{IsReadable}
use Rattle.store_model.specs.Spelling.{name_of}
use Rattle.build_store.specs.Openings.{NoneNamed}
use Rattle.build_store.specs.Publication.{KeepsOthers, Restores, line_for}
use Rattle.build_store.specs.View.{OpenViews, opened_at}
use Rattle.run_model.specs.Courses.{clean_says, said}

-- A publication of the task may be opened: none of it is open, no open one has the name of its record, and its line can be read again.
pub record MayOpen (rows : List EquivRow) (opened : OpenViews) (s : Signed) (tree : Entries) : Type 0 where
  pub closed : opened_at opened (task_folder s.task) ≡ None
  pub apart : NoneNamed opened (name_of s.sig)
  pub readable : IsReadable (line_for rows s tree)

-- What the opening of a restoring does to the disk, whatever is answered.
pub record PutsObject (tells : Type 0) (old new : Story) (rows : List EquivRow) (s : Signed) : Type 0 where
  pub images : tells → Passes old new (Restores old.held rows s)
  pub others : tells → Passes old new (KeepsOthers (task_folder s.task) None old.held)

-- the task of a number has this signature over these rows
abbrev pub IsSignedAt : List EquivRow → List PlanTask → ℕ → Signed → Type 0
IsSignedAt rows tasks t s = slice_get (signatures rows tasks) t ≡ Some s

-- The tree is the task's clean output, and that is what the clean build says.
pub record IsCleanOutput (gives : Gives) (tasks : List PlanTask) (t : ℕ) (tree : Entries) : Type 0 where
  pub built : Built
  pub is_built : slice_get (clean_build gives tasks) t ≡ Some built
  pub clean : built.outcome ≡ Ok tree
  pub says : clean_says gives tasks t ≡ said (Ok tree)
