-- What a store answers of the tasks of a plan, some of which were begun.
use Rattle.std.specs.Prelude.{◌≡◌, ◌<◌, ◌⊎◌, ℕ, Bool, List, [], Option, Some, None}
use Rattle.std.specs.List.{slice_get}
use Rattle.tree_model.specs.declared.hash.Hash.{Hash}
use Rattle.outside_traits.specs.Passes.{Passes, Same}
use Rattle.outside_traits.specs.Store.{Store}
use Rattle.outside_traits.specs.Story.{Story}
use Rattle.meta_model.specs.declared.event.Avail.{Avail}
use Rattle.meta_model.specs.declared.event.Avail.TheVariants.{Missing}
use Rattle.meta_model.specs.declared.plan.Plan.{Plan}
use Rattle.meta_model.specs.declared.plan.PlanTask.{PlanTask}
use Rattle.tale_model.specs.Need.{IsIn}
use Rattle.store_model.specs.declared.signature.EquivRow.{EquivRow}
use Rattle.store_model.specs.declared.signature.SigRecord.{SigRecord}
use Rattle.store_model.specs.Available.{IsAvailable}
use Rattle.store_model.specs.Rows.{row_at}
use Rattle.store_model.specs.Spelling.{name_of}
use Rattle.build_store.specs.View.{View, signed_by}
use Rattle.build_store.specs.declared.fault.StoreFault.{StoreFault}
use Rattle.build_store.specs.declared.fault.StoreFault.TheVariants as fault_of
use Rattle.setscene_plan.specs.declared.probe.ProbeFault.{ProbeFault}
use Rattle.setscene_plan.specs.declared.probe.ProbeFault.TheVariants as probe
use Rattle.setscene_plan.specs.declared.replan.Replan.{Replan}
use Rattle.setscene_plan.specs.Replans.{avail_in, need_in, unihashes_in}
use Rattle.setscene_plan.specs.View.{Says}
use Rattle.sig_gen.specs.Signing.{signature_by}
use Rattle.run_model.specs.Causes.{IsClashOf}

-- ---- what answers mean

abbrev pub if_row : Option EquivRow → Avail → Avail
if_row None before = Missing
if_row (Some row) before = before

-- A task that was begun is there as was answered before it was, or it is missing, where its signature's name has no row.
abbrev pub begun_as : List EquivRow → SigRecord → Avail → Avail
begun_as rows sig before = if_row (row_at rows (name_of sig)) before

abbrev pub flat : Option (Option Avail) → Option Avail
flat None = None
flat (Some x) = x

-- what had been answered of a task that was begun
abbrev pub answered_of : List (Option Avail) → ℕ → Option Avail
answered_of begun t = flat (slice_get begun t)

-- What an answer means for a task, of which it is kept what was answered before it was begun, if it was: of another one, where the disk
-- tells, that its output is there so.
abbrev pub Means : Type 0 → Store → List EquivRow → Bool → PlanTask → SigRecord → Option Avail → Avail → Type 0
Means tells held rows setscene task sig None there = tells → IsAvailable held rows setscene (signed_by task sig) there
Means tells held rows setscene task sig (Some before) there = there ≡ begun_as rows sig before

-- What a store's answers mean.
abbrev pub meant : Type 0 → Store → List EquivRow → Bool → List PlanTask → List (Option Avail) → Says
meant tells held rows setscene tasks begun t sig there = (task : PlanTask) → slice_get tasks t ≡ Some task → Means tells held rows setscene task sig (answered_of begun t) there

-- What was kept of a plan's tasks before the store was asked: the unihash of each, whether it was needed, and how its output was there.
pub record Earlier : Type 0 where
  pub unihashes : List Hash
  pub need : List Bool
  pub avail : List Avail

-- nothing was kept
abbrev pub nothing_earlier : Earlier
nothing_earlier = record { unihashes = []; need = []; avail = [] }

abbrev pub earlier_in : Replan → Earlier
earlier_in r = record { unihashes = unihashes_in r; need = need_in r; avail = avail_in r }

-- The answer had been kept of a needed task, which had this signature.
pub record WasKept (e : Earlier) (tasks : List PlanTask) (t : ℕ) (sig : SigRecord) (there : Avail) : Type 0 where
  pub needed : IsIn e.need t
  pub kept : slice_get e.avail t ≡ Some there
  pub signed : (task : PlanTask) → slice_get tasks t ≡ Some task → sig ≡ signature_by tasks e.unihashes task

-- What answers mean of which some had been kept before the store was asked: it was kept, or it means what the store's answers mean.
abbrev pub kept_or_meant : Earlier → Type 0 → Store → List EquivRow → Bool → List PlanTask → List (Option Avail) → Says
kept_or_meant e tells held rows setscene tasks begun t sig there = WasKept e tasks t sig there ⊎ meant tells held rows setscene tasks begun t sig there

-- ---- faults

-- A question on the tasks of a plan met this fault of a store, which has these rows, and whose disk has failed so often now.
abbrev pub IsMet : Plan → List EquivRow → ℕ → StoreFault → Type 0
IsMet plan rows now fault_of.Disk = 0 < now
IsMet plan rows now (fault_of.Collision name held given) = IsClashOf plan rows name held given
IsMet plan rows now (fault_of.Unsteady pn task held given) = ⊥
IsMet plan rows now fault_of.Memory = ⊥

-- 1 where a fault is kept
abbrev pub fault_count : Option StoreFault → ℕ
fault_count None = 0
fault_count (Some f) = 1

-- want of memory isn't kept, each other fault is
abbrev pub Keeps : StoreFault → Option StoreFault → Option StoreFault → ProbeFault → Type 0
Keeps fault_of.Disk old new answer = (new ≡ Some fault_of.Disk) × (answer ≡ probe.Store)
Keeps (fault_of.Collision name held given) old new answer = (new ≡ Some (fault_of.Collision name held given)) × (answer ≡ probe.Store)
Keeps (fault_of.Unsteady pn task held given) old new answer = (new ≡ Some (fault_of.Unsteady pn task held given)) × (answer ≡ probe.Store)
Keeps fault_of.Memory old new answer = (new ≡ old) × (answer ≡ probe.Memory)

-- ---- what questions leave

-- Questions on the tasks of a plan leave all of a store but its disk, and where the disk tells what it holds; and the first fault that they meet is
-- kept.
pub record Asks {D : Type 0} (plan : Plan) (tells : Type 0) (story : D → Story) (faults : D → ℕ) (old new : View D) (before now : Option StoreFault) : Type 0 where
  pub rows : new.rows ≡ old.rows
  pub keys : new.keys ≡ old.keys
  pub kept : new.kept ≡ old.kept
  pub opened : new.opened ≡ old.opened
  pub faultless : new.faultless ≡ old.faultless
  pub images : tells → Passes (story old.disk) (story new.disk) Same
  pub stays : (f : StoreFault) → before ≡ Some f → (now ≡ Some f) × (faults new.disk ≡ faults old.disk)
  pub none : before ≡ None → now ≡ None → faults new.disk ≡ faults old.disk
  pub met : (f : StoreFault) → before ≡ None → now ≡ Some f → IsMet plan new.rows (faults new.disk) f

-- why nothing is known of a plan's tasks over these rows: a fault was met, or memory was wanting
abbrev pub IsUnknown : Plan → List EquivRow → ℕ → ℕ → StoreFault → Type 0
IsUnknown plan rows before now fault_of.Disk = 0 < now
IsUnknown plan rows before now (fault_of.Collision name held given) = IsClashOf plan rows name held given
IsUnknown plan rows before now (fault_of.Unsteady pn task held given) = ⊥
IsUnknown plan rows before now fault_of.Memory = now ≡ before
