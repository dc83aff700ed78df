-- What contracts see of a store.
use Rattle.std.specs.Prelude.{◌≡◌, ◌⊎◌, ◌&&◌, ℕ, Bool, false, not, List, [], ◌∷◌, ◌++◌, filter, find, map, if◌then◌else◌, Option, None}
use Rattle.std.specs.List.{list_any}
use Rattle.std.specs.Option.{is_some}
use Rattle.std.specs.Str.{bytes_eq}
use Rattle.meta_model.specs.CleanBuild.{Entries}
use Rattle.meta_model.specs.declared.plan.PlanTask.{PlanTask}
use Rattle.tree_model.specs.declared.hash.Hash.{Hash}
use Rattle.store_model.specs.declared.signature.EquivRow.{EquivRow}
use Rattle.store_model.specs.declared.signature.SigRecord.{SigRecord}
use Rattle.store_model.specs.Signatures.{Signed}
use Rattle.store_model.specs.Spelling.{signature_bytes}
use Rattle.build_store.specs.declared.kept.KeptSig.{KeptSig}
use Rattle.build_store.specs.declared.pieces.OpenPublication.{OpenPublication}

-- An open publication: its task's folder, the name of its record, the whole text of its signature, whether an object is written, and what its task gave.
pub record OpenView : Type 0 where
  pub folder : List ℕ
  pub name : Hash
  pub sig : List ℕ
  pub shared : Bool
  pub tree : Entries

-- what a store has open
abbrev pub OpenViews : Type 0
OpenViews = List OpenView

-- what is open at the folder of a task
abbrev pub opened_at : OpenViews → List ℕ → Option OpenView
opened_at opened folder = find (λ one. bytes_eq one.folder folder) opened

-- an open publication, as contracts see it
abbrev pub open_view_of : OpenPublication → OpenView
open_view_of one = record { folder = one.folder; name = one.name; sig = one.sig; shared = is_some one.object; tree = one.tree }

-- what is open, as contracts see it
abbrev pub open_in : List OpenPublication → OpenViews
open_in open_ones = map open_view_of open_ones

-- nothing is open
abbrev pub NothingOpen : OpenViews → Type 0
NothingOpen opened = (folder : List ℕ) → opened_at opened folder ≡ None

-- A store: its disk, the rows of its index, the keys that it knows, by their bytes, the signatures that it keeps of tasks whose publication isn't done, the
-- publications that it has open, and whether each call that changes the disk was answered without a fault.
pub record View (D : Type 0) : Type 0 where
  pub disk : D
  pub rows : List EquivRow
  pub keys : List (List ℕ)
  pub kept : List KeptSig
  pub opened : OpenViews
  pub faultless : Bool

abbrev pub view_of : {D : Type 0} → D → List EquivRow → List (List ℕ) → List KeptSig → List OpenPublication → Bool → View D
view_of disk rows keys kept open_ones faultless =
    record { disk = disk; rows = rows; keys = keys; kept = kept; opened = open_in open_ones; faultless = faultless }

-- all but the disk is as before
pub record SameBooks {D : Type 0} (old new : View D) : Type 0 where
  pub rows : new.rows ≡ old.rows
  pub keys : new.keys ≡ old.keys
  pub kept : new.kept ≡ old.kept
  pub opened : new.opened ≡ old.opened
  pub faultless : new.faultless ≡ old.faultless

-- all but the disk is as before, unless it is known no more that no call met a fault
pub record SameRows {D : Type 0} (old new : View D) : Type 0 where
  pub rows : new.rows ≡ old.rows
  pub keys : new.keys ≡ old.keys
  pub kept : new.kept ≡ old.kept
  pub opened : new.opened ≡ old.opened

-- a task with its signature
abbrev pub signed_by : PlanTask → SigRecord → Signed
signed_by task sig = record { task = task; sig = sig }

-- the task as one whose output is kept as an object, or not
abbrev pub as_shared : Bool → PlanTask → PlanTask
as_shared shared of = record of { sstate = shared }

-- A task with its signature, where an object is written, or not: one that is restored is as one without an object.
abbrev pub signed_as : Bool → PlanTask → SigRecord → Signed
signed_as shared of sig = record { task = as_shared shared of; sig = sig }

-- the same as one without an object
abbrev pub unshared : Signed → Signed
unshared s = record { task = as_shared false s.task; sig = s.sig }

abbrev pub is_kept_for : List ℕ → List ℕ → KeptSig → Bool
is_kept_for pn task kept = bytes_eq kept.pn pn && bytes_eq kept.task task

abbrev pub kept_sig : Signed → KeptSig
kept_sig s = record { pn = s.task.id.pn; task = s.task.id.task; sig = signature_bytes s.sig }

-- the signatures without those of a task
abbrev pub kept_without : Signed → List KeptSig → List KeptSig
kept_without s kept = filter (λ k. not (is_kept_for s.task.id.pn s.task.id.task k)) kept

-- the signatures with that of a task, where none of it is kept yet
abbrev pub kept_with : Signed → List KeptSig → List KeptSig
kept_with s kept = if list_any (is_kept_for s.task.id.pn s.task.id.task) kept then kept else kept ++ kept_sig s ∷ []

-- the signature has the task's PN and name
pub record IsSignatureOf (of : PlanTask) (sig : SigRecord) : Type 0 where
  pub pn : sig.pn ≡ of.id.pn
  pub task : sig.task ≡ of.id.task

-- Where opening a publication wants memory, nothing was changed, or the signature is kept.
abbrev pub IsWanting : {D : Type 0} → View D → View D → Signed → Type 0
IsWanting old new s = (new ≡ old) ⊎ (new.kept ≡ kept_with s old.kept)
