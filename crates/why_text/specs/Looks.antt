-- What is answered of the tasks of a plan by a disk that is looked at.
use Rattle.std.specs.Prelude.{◌≡◌, ℕ, Bool, true, List, Option, Some, None, slice_get}
use Rattle.outside_traits.specs.Fault.{Counts}
use Rattle.outside_traits.specs.Passes.{Passes, Same}
use Rattle.outside_traits.specs.Store.{Store}
use Rattle.outside_traits.specs.Story.{Story}
use Rattle.meta_model.specs.declared.plan.Plan.{Plan}
use Rattle.meta_model.specs.declared.plan.PlanTask.{PlanTask}
use Rattle.store_model.specs.declared.signature.EquivRow.{EquivRow}
use Rattle.store_model.specs.Available.{IsAvailable}
use Rattle.build_store.specs.View.{signed_by}
use Rattle.build_store.specs.declared.fault.StoreFault.{StoreFault}
use Rattle.build_store.specs.declared.fault.StoreFault.TheVariants as fault_of
use Rattle.run_model.specs.Causes.{IsClashOf}
use Rattle.setscene_plan.specs.View.{Says}
use Rattle.setscene_plan.specs.declared.probe.ProbeFault.{ProbeFault}
use Rattle.setscene_plan.specs.declared.probe.ProbeFault.TheVariants as probe

-- What an answer means: where the disk tells, that the task's output is there so.
abbrev pub looked : Type 0 → Store → List EquivRow → Bool → List PlanTask → Says
looked tells held rows setscene tasks t sig there = (task : PlanTask) → slice_get tasks t ≡ Some task → tells → IsAvailable held rows setscene (signed_by task sig) there

-- 1 where a fault is kept
abbrev pub fault_count : Option StoreFault → ℕ
fault_count None = 0
fault_count (Some f) = 1

-- want of memory isn't kept, each other fault is
abbrev pub Keeps : StoreFault → Option StoreFault → Option StoreFault → ProbeFault → Type 0
Keeps fault_of.Disk old new answer = (new ≡ Some fault_of.Disk) × (answer ≡ probe.Store)
Keeps (fault_of.Collision name held given) old new answer = (new ≡ Some (fault_of.Collision name held given)) × (answer ≡ probe.Store)
Keeps (fault_of.Unsteady pn task held given) old new answer = (new ≡ Some (fault_of.Unsteady pn task held given)) × (answer ≡ probe.Store)
Keeps fault_of.Memory old new answer = (new ≡ old) × (answer ≡ probe.Memory)

-- A question on the tasks of a plan over these rows is refused with this fault, where the disk had failed so often before, and has so often now.
abbrev pub IsMet : Plan → List EquivRow → ℕ → ℕ → StoreFault → Type 0
IsMet plan rows before now fault_of.Disk = Counts before now true
IsMet plan rows before now (fault_of.Collision name held given) = (now ≡ before) × IsClashOf plan rows name held given
IsMet plan rows before now (fault_of.Unsteady pn task held given) = ⊥
IsMet plan rows before now fault_of.Memory = now ≡ before

-- Questions change nothing, and the first fault that they meet is kept.
pub record Looks {D : Type 0} (plan : Plan) (rows : List EquivRow) (tells : Type 0) (story : D → Story) (faults : D → ℕ) (old new : D) (before now : Option StoreFault) : Type 0 where
  pub images : tells → Passes (story old) (story new) Same
  pub stays : (f : StoreFault) → before ≡ Some f → (now ≡ Some f) × (faults new ≡ faults old)
  pub none : before ≡ None → now ≡ None → faults new ≡ faults old
  pub met : (f : StoreFault) → before ≡ None → now ≡ Some f → IsMet plan rows (faults old) (faults new) f

-- Why nothing is told of a plan: the disk failed, memory was wanting, or over some rows two signatures have one digest.
abbrev pub IsWhyFault : Plan → StoreFault → Type 0
IsWhyFault plan fault_of.Disk = Unit {0}
IsWhyFault plan (fault_of.Collision name held given) = (rows : List EquivRow) × IsClashOf plan rows name held given
IsWhyFault plan (fault_of.Unsteady pn task held given) = ⊥
IsWhyFault plan fault_of.Memory = Unit {0}
