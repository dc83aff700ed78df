-- What a store finds of a task.
use Rattle.std.specs.Prelude.{◌≡◌, ◌≢◌, ◌⊎◌, ◌&&◌, ℕ, Bool, true, false, List, Option, Some, None}
use Rattle.outside_traits.specs.Reading.{IsUnder}
use Rattle.outside_traits.specs.Store.{Store}
use Rattle.meta_model.specs.declared.event.Avail.{Avail}
use Rattle.meta_model.specs.declared.event.Avail.TheVariants.{Missing}
use Rattle.meta_model.specs.declared.event.Avail.TheVariants as avail
use Rattle.meta_model.specs.declared.plan.PlanTask.{PlanTask}
use Rattle.meta_model.specs.CleanBuild.{Entries, is_beyond}
use Rattle.store_model.specs.declared.signature.EquivRow.{EquivRow}
use Rattle.store_model.specs.Available.{Matches, object_folder, stamp_path, work_folder}
use Rattle.store_model.specs.Rows.{row_at, IsClear}
use Rattle.store_model.specs.Signatures.{Signed}
use Rattle.store_model.specs.Spelling.{name_of, signature_bytes}
use Rattle.tree_model.specs.declared.hash.Hash.{Hash}
use Rattle.build_store.specs.declared.fault.StoreFault.{StoreFault}
use Rattle.build_store.specs.declared.fault.StoreFault.TheVariants as fault
use Rattle.build_store.specs.Faults.{IsOtherSignature}
use Rattle.store_model.specs.Publication.{stamp_at, stamp_file}

-- What is held under a folder, where that is within the limits of an output; nothing exactly where it is beyond them.
abbrev pub IsOutput : List ℕ → Store → Option Entries → Type 0
IsOutput folder held (Some tree) = IsUnder folder tree held × (is_beyond tree ≡ false)
IsOutput folder held None = (tree : Entries) × IsUnder folder tree held × (is_beyond tree ≡ true)

-- Whether a task's output is there was answered: no row of its name has another signature, and unless it is missing one has its own.
pub record IsAnswered (rows : List EquivRow) (s : Signed) (there : Avail) : Type 0 where
  pub clear : IsClear rows (name_of s.sig) (signature_bytes s.sig)
  pub stored : there ≢ Missing → (row : EquivRow) × (row_at rows (name_of s.sig) ≡ Some row)

-- the folder's stamp names the record
abbrev pub IsStampedFor : List ℕ → Hash → Store → Type 0
IsStampedFor folder name held = held (stamp_at folder) ≡ Some (stamp_file name)

-- the stamp of the task names the row's record, and its work folder has the row's manifest
pub record IsWorkOf (of : PlanTask) (row : EquivRow) (held : Store) : Type 0 where
  pub stamp : held (stamp_path of) ≡ Some (stamp_file row.name)
  pub folder : Matches held (work_folder of) row.manifest

-- objects count, and that of the row has its manifest
pub record IsSharedOf (counts : Bool) (row : EquivRow) (held : Store) : Type 0 where
  pub counted : counts ≡ true
  pub object : Matches held (object_folder row.unihash) row.manifest

-- how the output of a task is there, which has this row
abbrev pub IsThere : PlanTask → EquivRow → Bool → Store → Avail → Type 0
IsThere of row setscene held avail.Work = IsWorkOf of row held
IsThere of row setscene held avail.Object = (IsWorkOf of row held → ⊥) × IsSharedOf (setscene && of.sstate) row held
IsThere of row setscene held avail.Missing = (IsWorkOf of row held → ⊥) × (IsSharedOf (setscene && of.sstate) row held → ⊥)

-- a task that runs in each run has no output there
abbrev pub IsThereAtAll : PlanTask → EquivRow → Bool → Store → Avail → Type 0
IsThereAtAll of row setscene held there = ((of.nostamp ≡ true) × (there ≡ avail.Missing)) ⊎ ((of.nostamp ≡ false) × IsThere of row setscene held there)

-- the row has another signature; a fault of the disk and want of memory are free
abbrev pub IsOtherOrOutside : EquivRow → List ℕ → StoreFault → Type 0
IsOtherOrOutside row bytes fault.Disk = Unit {0}
IsOtherOrOutside row bytes fault.Memory = Unit {0}
IsOtherOrOutside row bytes (fault.Collision name held given) = IsOtherSignature row bytes (fault.Collision name held given)
IsOtherOrOutside row bytes (fault.Unsteady pn task held given) = ⊥
