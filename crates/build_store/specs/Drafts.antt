-- What a publication is to put.
use Rattle.std.specs.Prelude.{◌≡◌, ◌≢◌, ℕ, List, [], ◌∷◌, ◌++◌, Option, Some, None}
use Rattle.tree_model.specs.declared.entry.Entry.{Entry}
use Rattle.tree_model.specs.declared.manifest.ManifestLine.{ManifestLine}
use Rattle.tree_model.specs.declared.hash.Hash.{Hash}
use Rattle.tree_model.specs.Manifest.{manifest_lines}
use Rattle.meta_model.specs.CleanBuild.{Entries}
use Rattle.meta_model.specs.declared.plan.PlanTask.{PlanTask}
use Rattle.store_model.specs.declared.signature.EquivRow.{EquivRow}
use Rattle.store_model.specs.declared.signature.SigRecord.{SigRecord}
use Rattle.store_model.specs.declared.signature.StoredSig.{StoredSig}
use Rattle.store_model.specs.Rows.{new_unihash, row_at}
use Rattle.store_model.specs.Signatures.{Signed}
use Rattle.store_model.specs.Spelling.{key_part, name_of, record_bytes, signature_bytes}
use Rattle.record_move.specs.Known.{key_named}
use Rattle.build_store.specs.Keys.{text_key}
use Rattle.sig_gen.specs.Sound.{Spells}
use Rattle.sig_gen.specs.Stored.{IsInOrder}
use Rattle.store_model.specs.Stored.{SpellsStored}
use Rattle.build_store.specs.declared.drafting.NewRecord.{NewRecord}
use Rattle.build_store.specs.declared.drafting.Draft.{Draft}
use Rattle.build_store.specs.Publication.{IsAgreed, unihash_for}
use Rattle.store_model.specs.Publication.{record_file}
use Rattle.store_model.specs.Readable.{row_of_stored}
use Rattle.build_store.specs.declared.fault.StoreFault.{StoreFault}
use Rattle.build_store.specs.declared.fault.StoreFault.TheVariants as fault
use Rattle.build_store.specs.Faults.{IsOtherSignature}

-- the two manifests, of the row and of what was given
abbrev pub IsUnsteadyOf : PlanTask → EquivRow → List ManifestLine → StoreFault → Type 0
IsUnsteadyOf of row manifest f = f ≡ fault.Unsteady of.id.pn of.id.task row.manifest manifest

-- the row has another signature, or another manifest
abbrev pub IsKnownFault : PlanTask → EquivRow → List ℕ → List ManifestLine → StoreFault → Type 0
IsKnownFault of row bytes manifest fault.Disk = ⊥
IsKnownFault of row bytes manifest fault.Memory = Unit {0}
IsKnownFault of row bytes manifest (fault.Collision name held given) = IsOtherSignature row bytes (fault.Collision name held given)
IsKnownFault of row bytes manifest (fault.Unsteady pn task held given) = (row.sig ≡ bytes) × (row.manifest ≢ manifest) × IsUnsteadyOf of row manifest (fault.Unsteady pn task held given)

-- the key is another one: want of memory is free
abbrev pub IsKeyOther : Hash → List ℕ → List ℕ → StoreFault → Type 0
IsKeyOther name known key fault.Disk = ⊥
IsKeyOther name known key fault.Memory = Unit {0}
IsKeyOther name known key (fault.Collision n held given) = (known ≢ key) × (n ≡ name) × (held ≡ known) × (given ≡ key)
IsKeyOther name known key (fault.Unsteady pn task held given) = ⊥

-- another key is known by the name of the key of a signature with this whole text
abbrev pub IsKeyClash : List (List ℕ) → List ℕ → StoreFault → Type 0
IsKeyClash keys text fault.Disk = ⊥
IsKeyClash keys text fault.Memory = Unit {0}
IsKeyClash keys text (fault.Collision name held given) = (key_named keys name ≡ Some held) × (name ≡ text_key text) × (given ≡ key_part text) × (held ≢ given)
IsKeyClash keys text (fault.Unsteady pn task held given) = ⊥

-- the record of a signature that none is stored of, with this manifest
abbrev pub new_stored : List EquivRow → SigRecord → List ManifestLine → StoredSig
new_stored rows sig manifest = record { sig = sig; manifest = manifest; unihash = new_unihash rows (name_of sig) sig.pn sig.task manifest }

-- a new record's file and row
abbrev pub IsNew : Option NewRecord → StoredSig → Type 0
IsNew None stored = ⊥
IsNew (Some made) stored = (made.file ≡ record_file stored) × (made.row ≡ row_of_stored stored) × (IsInOrder stored → SpellsStored (record_bytes stored) stored)

-- A record is new just where no row has its name.
abbrev pub IsNewFor : List EquivRow → Signed → Entries → Option NewRecord → Type 0
IsNewFor rows s tree None = (row : EquivRow) × (row_at rows (name_of s.sig) ≡ Some row)
IsNewFor rows s tree (Some made) = (row_at rows (name_of s.sig) ≡ None) × IsNew (Some made) (new_stored rows s.sig (manifest_lines tree))

abbrev pub file_of : Option NewRecord → Option Entry
file_of None = None
file_of (Some made) = Some made.file

abbrev pub row_of_new : Option NewRecord → Option EquivRow
row_of_new None = None
row_of_new (Some made) = Some made.row

-- the rows with one more, if there is one
abbrev pub rows_behind : List EquivRow → Option EquivRow → List EquivRow
rows_behind rows None = rows
rows_behind rows (Some row) = rows ++ row ∷ []

-- what a publication of a task is to put
pub record IsDraft (rows : List EquivRow) (s : Signed) (tree : Entries) (draft : Draft) : Type 0 where
  pub name : draft.name ≡ name_of s.sig
  pub unihash : draft.unihash ≡ unihash_for rows s tree
  pub new : IsNewFor rows s tree draft.new
  pub spells : Spells (signature_bytes s.sig) s.sig
  pub agrees : IsAgreed rows s tree
