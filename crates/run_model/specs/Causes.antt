-- Two that differ, for which a run ends with a fault, and tasks that a fault broke off.
use Rattle.std.specs.Prelude.{◌≡◌, ◌≢◌, ◌⊎◌, ℕ, Bool, true, false, List, Some}
use Rattle.std.specs.List.{list_any, slice_get}
use Rattle.sha2.specs.Sha256.{sha256}
use Rattle.tree_model.specs.Manifest.{manifest_lines}
use Rattle.tree_model.specs.declared.hash.Hash.{Hash}
use Rattle.tree_model.specs.declared.manifest.ManifestLine.{ManifestLine}
use Rattle.meta_model.specs.CleanBuild.{Entries}
use Rattle.meta_model.specs.declared.event.Cut.TheVariants as cut
use Rattle.meta_model.specs.declared.event.Event.{Event}
use Rattle.meta_model.specs.declared.event.Event.TheVariants as events
use Rattle.meta_model.specs.declared.event.Logged.{Logged}
use Rattle.meta_model.specs.declared.plan.Plan.{Plan}
use Rattle.store_model.specs.declared.signature.EquivRow.{EquivRow}
use Rattle.store_model.specs.Clashes.{AreToldApart}
use Rattle.store_model.specs.Rows.{row_at}
use Rattle.store_model.specs.Signatures.{Signed, signatures}
use Rattle.store_model.specs.Spelling.{key_bytes, name_of, signature_bytes}

-- Two byte strings that differ have one digest, which is the name: over the rows the row of the name of a task of the plan and that task's signature
-- are told apart by them; or the one that was given is the key of a task of the plan.
pub record IsClashOf (plan : Plan) (rows : List EquivRow) (name : Hash) (held given : List ℕ) : Type 0 where
  pub number : ℕ
  pub signed : Signed
  pub is_signed : slice_get (signatures rows plan.tasks) number ≡ Some signed
  pub meet : ((row : EquivRow) × (row_at rows (name_of signed.sig) ≡ Some row) × AreToldApart row.sig (signature_bytes signed.sig) (name_of signed.sig) name held given)
      ⊎ (given ≡ key_bytes signed.sig.key)
  pub differ : held ≢ given
  pub held_name : sha256 held ≡ name.bytes
  pub given_name : sha256 given ≡ name.bytes

-- The output of a task of the plan, whose PN and name these are, differs from one run to another: over the rows the row of its signature's
-- name has its signature and the one manifest, and a tree that was to be published for it has the other one.
pub record IsUnsteadyOf (plan : Plan) (rows : List EquivRow) (pn task : List ℕ) (held given : List ManifestLine) : Type 0 where
  pub number : ℕ
  pub signed : Signed
  pub is_signed : slice_get (signatures rows plan.tasks) number ≡ Some signed
  pub pn_is : pn ≡ signed.task.id.pn
  pub task_is : task ≡ signed.task.id.task
  pub row : EquivRow
  pub is_row : row_at rows (name_of signed.sig) ≡ Some row
  pub same : row.sig ≡ signature_bytes signed.sig
  pub held_is : held ≡ row.manifest
  pub tree : Entries
  pub given_is : given ≡ manifest_lines tree
  pub differ : held ≢ given

-- whether the event is that a task broke off by a fault
abbrev pub is_fault_break : Event → Bool
is_fault_break (events.Broke t cut.Fault) = true
is_fault_break _ = false

-- whether a task broke off in a tale by a fault
abbrev pub fault_broke : List Logged → Bool
fault_broke tale = list_any (λ l. is_fault_break l.event) tale
