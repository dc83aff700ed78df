-- What stands of a run in what a crash leaves.
use Rattle.std.specs.Prelude.{◌≡◌, ◌≢◌, ◌⊎◌, ℕ, true, false, List, Option, length, take, Some, None}
use Rattle.std.specs.List.{slice_get}
use Rattle.tree_model.specs.Path.{inside}
use Rattle.tree_model.specs.Tree.{IsTree, entry_at}
use Rattle.outside_traits.specs.Store.{Store}
use Rattle.meta_model.specs.declared.event.Avail.{Avail}
use Rattle.meta_model.specs.declared.event.Avail.TheVariants.{Missing, Object, Work}
use Rattle.meta_model.specs.declared.event.Cut.{Cut}
use Rattle.meta_model.specs.declared.event.Cut.TheVariants as cuts
use Rattle.meta_model.specs.declared.event.Event.{Event}
use Rattle.meta_model.specs.declared.event.Event.TheVariants as events
use Rattle.meta_model.specs.declared.event.Logged.{Logged}
use Rattle.meta_model.specs.declared.plan.Options.{Options}
use Rattle.meta_model.specs.declared.plan.Plan.{Plan}
use Rattle.meta_model.specs.declared.plan.PlanTask.{PlanTask}
use Rattle.meta_model.specs.CleanBuild.{Built, clean_build}
use Rattle.store_model.specs.declared.signature.EquivRow.{EquivRow}
use Rattle.store_model.specs.Available.{HoldsClean, IsAvailable, IsInWork, object_folder, stamp_path, task_folder, work_folder}
use Rattle.store_model.specs.Rows.{row_at, uni}
use Rattle.store_model.specs.Signatures.{Signed}
use Rattle.store_model.specs.Spelling.{name_of}
use Rattle.store_model.specs.Lines.{KeepsWork}
use Rattle.store_model.specs.Paths.{record_path}
use Rattle.store_model.specs.Publication.{Publication, stamp_at, stamp_file, work_at}
use Rattle.tale_model.specs.declared.fate.Fate.TheVariants as fate
use Rattle.tale_model.specs.Fates.{fate_at, fates_told, is_settled}
use Rattle.run_model.specs.Opening.{Opening}
use Rattle.run_model.specs.Books.{rows_after, signed_after}

-- What the stamp tells of is there: it names the stored record, and the work folder holds exactly the tree.
pub record IsTold (p : Publication) (image : Store) : Type 0 where
  pub stamp : image (stamp_at p.folder) ≡ Some (stamp_file p.name)
  pub stored : image (record_path p.name) ≡ Some p.file
  pub at : image (work_at p.folder) ≡ None
  pub entries : (path : List ℕ) → image (inside (work_at p.folder) path) ≡ entry_at p.tree path

-- A task's stamp doesn't lie: its stamp and its work folder are as when the run began, or no stamp is held, or what the stamp tells of
-- is there.
abbrev pub IsHonest : Store → Store → PlanTask → Type 0
IsHonest held image task =
    KeepsWork (task_folder task) held image
    ⊎ ((image (stamp_path task) ≡ None)
    ⊎ ((p : Publication) × (p.folder ≡ task_folder task) × IsTold p image))

-- the tale starts the task
pub record HasStarted (tale : List Logged) (t : ℕ) : Type 0 where
  pub place : ℕ
  pub entry : Logged
  pub is_entry : slice_get tale place ≡ Some entry
  pub seat : ℕ
  pub starts : entry.event ≡ events.Started t seat

-- Of which task the event tells how its output was there: one that is found was in its work folder, one that is restored had an object, and
-- one that is started was missing.
abbrev pub there_by : Event → Option (ℕ × Avail)
there_by (events.Found t) = Some (t, Work)
there_by (events.Restored t) = Some (t, Object)
there_by (events.Started t seat) = Some (t, Missing)
there_by _ = None

-- So it was of each task that the tale finds, restores or starts, in what was held as the run began, by the task's signature over the rows before
-- that event.
abbrev pub WereThere : Opening → Plan → Options → List Logged → Type 0
WereThere o plan options tale = (k t : ℕ) (there : Avail) (entry : Logged) → slice_get tale k ≡ Some entry → there_by entry.event ≡ Some (t, there) →
    (s : Signed) → signed_after o plan (take k tale) t ≡ Some s → IsAvailable o.story.held (rows_after o plan (take k tale)) options.setscene s there

-- the tale restores the task
pub record HasRestored (tale : List Logged) (t : ℕ) : Type 0 where
  pub place : ℕ
  pub entry : Logged
  pub is_entry : slice_get tale place ≡ Some entry
  pub restores : entry.event ≡ events.Restored t

-- the tale breaks the task off, by a fault or for want of memory
pub record HasBroken (tale : List Logged) (t : ℕ) : Type 0 where
  pub place : ℕ
  pub entry : Logged
  pub is_entry : slice_get tale place ≡ Some entry
  pub cut : Cut
  pub breaks : entry.event ≡ events.Broke t cut
  pub not_bench : cut ≢ cuts.Bench

-- the tale says that the task ended
pub record HasFinished (tale : List Logged) (t : ℕ) : Type 0 where
  pub place : ℕ
  pub entry : Logged
  pub is_entry : slice_get tale place ≡ Some entry
  pub ends : entry.event ≡ events.Ended t

-- the task's output was put in place: it was published as the task ended, or restored
abbrev pub IsPlaced : List Logged → ℕ → Type 0
IsPlaced tale t = HasFinished tale t ⊎ HasRestored tale t

-- a task ended in a tale
abbrev pub HasEnded : Plan → List Logged → ℕ → Type 0
HasEnded plan tale t = fate_at (fates_told (length plan.tasks) tale) t ≡ fate.Ended

abbrev pub IsSettledIn : Plan → List Logged → ℕ → Type 0
IsSettledIn plan tale t = is_settled (fate_at (fates_told (length plan.tasks) tale) t) ≡ true

-- the task's name has a row, of its PN and task
pub record HasOwnRow (rows : List EquivRow) (s : Signed) : Type 0 where
  pub row : EquivRow
  pub is_row : row_at rows (name_of s.sig) ≡ Some row
  pub pn : row.pn ≡ s.task.id.pn
  pub task : row.task ≡ s.task.id.task

-- A settled task stands: its name has a row, its work folder holds exactly its clean output, and its stamp names its stored record,
-- unless it runs in each run; and the object of one that ended and is kept as one holds that output too.
pub record IsStanding (o : Opening) (plan : Plan) (tale : List Logged) (t : ℕ) (task : PlanTask) (image : Store) : Type 0 where
  pub built : Built
  pub is_built : slice_get (clean_build o.gives plan.tasks) t ≡ Some built
  pub stored : (s : Signed) → signed_after o plan tale t ≡ Some s → HasOwnRow (rows_after o plan tale) s
  pub work : HoldsClean image (work_folder task) built
  pub tree : IsTree work.tree
  pub stays : task.nostamp ≡ false → (s : Signed) → signed_after o plan tale t ≡ Some s → IsInWork image (rows_after o plan tale) s
  pub shared : task.sstate ≡ true → HasEnded plan tale t → (s : Signed) → signed_after o plan tale t ≡ Some s → HoldsClean image (object_folder (uni (rows_after o plan tale) (name_of s.sig))) built

-- Each task that is settled in a tale stands.
abbrev pub AllStand : Opening → Plan → List Logged → Store → Type 0
AllStand o plan tale image = (t : ℕ) (task : PlanTask) → slice_get plan.tasks t ≡ Some task → IsSettledIn plan tale t → IsStanding o plan tale t task image
