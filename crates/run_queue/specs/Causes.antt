-- Why a fault is kept, over the rows that the store has then.
use Rattle.std.specs.Prelude.{◌≡◌, ◌<◌, ℕ, Bool, true, List, Option, None, Some}
use Rattle.std.specs.List.{slice_get}
use Rattle.meta_model.specs.CleanBuild.{Entries}
use Rattle.meta_model.specs.declared.plan.Plan.{Plan}
use Rattle.meta_model.specs.declared.plan.PlanTask.{PlanTask}
use Rattle.store_model.specs.declared.signature.EquivRow.{EquivRow}
use Rattle.run_model.specs.Causes.{IsClashOf, IsUnsteadyOf}
use Rattle.build_store.specs.declared.fault.StoreFault.{StoreFault}
use Rattle.build_store.specs.declared.fault.StoreFault.TheVariants as fault_of
use Rattle.task_worker.specs.declared.given.Given.{Given}
use Rattle.task_worker.specs.declared.given.Given.TheVariants as givens
use Rattle.run_queue.specs.declared.fault.RunFault.{RunFault}
use Rattle.run_queue.specs.declared.fault.RunFault.TheVariants as ends

-- ---- of the store

-- Why a fault of the store is kept: the disk's count is above 0; two signatures have one digest; a task's output differs from one run to
-- another; a publication wanted memory, for which nothing is asked.
abbrev pub IsStoreCause : ℕ → Plan → List EquivRow → StoreFault → Type 0
IsStoreCause count plan rows fault_of.Disk = 0 < count
IsStoreCause count plan rows (fault_of.Collision name held given) = IsClashOf plan rows name held given
IsStoreCause count plan rows (fault_of.Unsteady pn task held given) = IsUnsteadyOf plan rows pn task held given
IsStoreCause count plan rows fault_of.Memory = Unit {0}

-- Why a fault is kept: the store's has its cause; the sink failed.
abbrev pub IsCause : ℕ → Plan → List EquivRow → Bool → RunFault → Type 0
IsCause count plan rows sink_failed (ends.Store f) = IsStoreCause count plan rows f
IsCause count plan rows sink_failed ends.Write = sink_failed ≡ true

-- ---- of a turn

-- the task of this number has this PN and this name
pub record IsTaskAt (tasks : List PlanTask) (t : ℕ) (pn name : List ℕ) : Type 0 where
  pub task : PlanTask
  pub is_task : slice_get tasks t ≡ Some task
  pub pn_is : pn ≡ task.id.pn
  pub name_is : name ≡ task.id.task

-- The fault, if it is that an output isn't steady, is of the task of this number, for which this tree was given, and carries its manifest.
abbrev pub IsStoreOfGiven : List PlanTask → ℕ → Given → StoreFault → Type 0
IsStoreOfGiven tasks t g fault_of.Disk = Unit {0}
IsStoreOfGiven tasks t g (fault_of.Collision name held given) = Unit {0}
IsStoreOfGiven tasks t g (fault_of.Unsteady pn task held given) = IsTaskAt tasks t pn task × ((tree : Entries) × (g ≡ givens.Tree tree given))
IsStoreOfGiven tasks t g fault_of.Memory = Unit {0}

abbrev pub IsOfGiven : List PlanTask → ℕ → Given → RunFault → Type 0
IsOfGiven tasks t g (ends.Store f) = IsStoreOfGiven tasks t g f
IsOfGiven tasks t g ends.Write = Unit {0}

-- the same with nothing handed over: the fault carries nothing of an output
abbrev pub IsOfNone : RunFault → Type 0
IsOfNone (ends.Store fault_of.Disk) = Unit {0}
IsOfNone (ends.Store (fault_of.Collision name held given)) = Unit {0}
IsOfNone (ends.Store (fault_of.Unsteady pn task held given)) = ⊥
IsOfNone (ends.Store fault_of.Memory) = Unit {0}
IsOfNone ends.Write = Unit {0}

abbrev pub IsOfHanded : List PlanTask → ℕ → Option Given → RunFault → Type 0
IsOfHanded tasks t (Some g) f = IsOfGiven tasks t g f
IsOfHanded tasks t None f = IsOfNone f
