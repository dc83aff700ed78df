-- What a run would do with each task that it needs, and why it would run. (Own rules.)
use Rattle.std.specs.Prelude.{◌≡◌, ◌≢◌, ◌⊎◌, ℕ, Bool, true, false, List, [], Option, Some, None, Contains, slice_get}
use Rattle.std.specs.Option.{option_and_then}
use Rattle.outside_traits.specs.Store.{Store}
use Rattle.tale_model.specs.Need.{IsIn}
use Rattle.tree_model.specs.declared.hash.Hash.{Hash}
use Rattle.meta_model.specs.declared.event.Avail.{Avail}
use Rattle.meta_model.specs.declared.event.Avail.TheVariants as avail
use Rattle.meta_model.specs.declared.plan.Plan.{Plan}
use Rattle.meta_model.specs.declared.plan.PlanTask.{PlanTask}
use Rattle.store_model.specs.declared.signature.EquivRow.{EquivRow}
use Rattle.store_model.specs.declared.signature.SigRecord.{SigRecord}
use Rattle.store_model.specs.Available.{stamp_path}
use Rattle.store_model.specs.Rows.{row_at}
use Rattle.store_model.specs.Signatures.{Signed}
use Rattle.store_model.specs.Sound.{IsSignature}
use Rattle.store_model.specs.Spelling.{signature_bytes}
use Rattle.why_model.specs.declared.fate.Cause.{Cause}
use Rattle.why_model.specs.declared.fate.Cause.TheVariants as cause
use Rattle.why_model.specs.declared.fate.Fate.{Fate}
use Rattle.why_model.specs.declared.fate.Fate.TheVariants as fate
use Rattle.why_model.specs.Differing.{differing}
use Rattle.why_model.specs.Judged.{SaysName}
use Rattle.why_model.specs.Seen.{waits_of}

-- The row that a task's stamp names, where it names one that is believed.
pub record IsStamped (held : Store) (rows : List EquivRow) (of : PlanTask) (row : Option EquivRow) : Type 0 where
  pub named : Option Hash
  pub stamp : SaysName (held (stamp_path of)) named
  pub is : row ≡ option_and_then (row_at rows) named

-- Its stamp names a row, which has this signature.
pub record IsEarlier (held : Store) (rows : List EquivRow) (of : PlanTask) (was : SigRecord) : Type 0 where
  pub row : EquivRow
  pub stamped : IsStamped held rows of (Some row)
  pub sound : IsSignature was
  pub spelled : row.sig ≡ signature_bytes was

-- It leads to no signature: it names no row, or one whose text is no signature's (its key is some other bytes of the right digest).
abbrev pub HasNoEarlier : Store → List EquivRow → PlanTask → Type 0
HasNoEarlier held rows of = IsStamped held rows of None ⊎ ((row : EquivRow) × IsStamped held rows of (Some row) × ((was : SigRecord) → IsSignature was → row.sig ≡ signature_bytes was → ⊥))

-- What is held, the rows of its believed records, and the plan of a run; how the outputs of its needed tasks are there, which tasks are seen, and
-- which are needed in any case; and whether the run is given the option `-f`.
pub record Told : Type 0 where
  pub held : Store
  pub rows : List EquivRow
  pub plan : Plan
  pub avail : List Avail
  pub seen : List Bool
  pub certain : List Bool
  pub force : Bool

-- the task is a target's, and the option `-f` is given
abbrev pub IsForced : Told → ℕ → Type 0
IsForced told n = (told.force ≡ true) × Contains told.plan.targets n

-- Why the task of a number would run, by its signature.
abbrev pub IsCause : Told → ℕ → Signed → Cause → Type 0
IsCause told n s cause.Forced = (s.task.nostamp ≡ true) × IsForced told n
IsCause told n s cause.Always = (s.task.nostamp ≡ true) × (IsForced told n → ⊥)
IsCause told n s cause.New = (s.task.nostamp ≡ false) × HasNoEarlier told.held told.rows s.task
IsCause told n s cause.Gone = (s.task.nostamp ≡ false) × ((was : SigRecord) × IsEarlier told.held told.rows s.task was × (differing s.sig was ≡ []))
IsCause told n s (cause.Differs names) = (s.task.nostamp ≡ false) × ((was : SigRecord) × IsEarlier told.held told.rows s.task was × (names ≡ differing s.sig was) × (names ≢ []))

-- What a run would do with the task of a number, which it needs: what is there is found, or restored where it is needed in any case; of the tasks that
-- are missing the one that waits may run, and another one runs where it is needed in any case.
abbrev pub IsFate : Told → ℕ → Signed → Fate → Type 0
IsFate told n s fate.Found = slice_get told.avail n ≡ Some avail.Work
IsFate told n s fate.Restored = (slice_get told.avail n ≡ Some avail.Object) × IsIn told.certain n
IsFate told n s fate.MayRestore = (slice_get told.avail n ≡ Some avail.Object) × (IsIn told.certain n → ⊥)
IsFate told n s (fate.Runs why) = (slice_get told.avail n ≡ Some avail.Missing) × (waits_of told.seen s.task ≡ []) × IsIn told.certain n × IsCause told n s why
IsFate told n s (fate.MayRun waits) = (slice_get told.avail n ≡ Some avail.Missing) × (waits ≡ waits_of told.seen s.task) × (waits ≢ [])
IsFate told n s fate.MayNeed = (slice_get told.avail n ≡ Some avail.Missing) × (waits_of told.seen s.task ≡ []) × (IsIn told.certain n → ⊥)
