-- Why a call of a store is refused.
use Rattle.std.specs.Prelude.{◌≡◌, ◌≢◌, ◌⊎◌, ℕ, Bool, true, false, List, Some, Result, Ok, Err}
use Rattle.sha2.specs.Sha256.{sha256}
use Rattle.tree_model.specs.Manifest.{manifest_lines}
use Rattle.tree_model.specs.declared.hash.Hash.{Hash}
use Rattle.outside_traits.specs.declared.fault.DiskFault.{DiskFault}
use Rattle.outside_traits.specs.declared.fault.DiskFault.TheVariants as disk
use Rattle.meta_model.specs.CleanBuild.{Entries}
use Rattle.store_model.specs.declared.signature.EquivRow.{EquivRow}
use Rattle.store_model.specs.declared.signature.SigRecord.{SigRecord}
use Rattle.store_model.specs.Rows.{row_at}
use Rattle.store_model.specs.Signatures.{Signed}
use Rattle.store_model.specs.Spelling.{key_bytes, key_name, name_of, signature_bytes}
use Rattle.record_move.specs.Known.{key_named}
use Rattle.store_model.specs.Clashes.{AreToldApart}
use Rattle.build_store.specs.declared.fault.StoreFault.{StoreFault}
use Rattle.build_store.specs.declared.fault.StoreFault.TheVariants as fault

-- whether the fault is the disk's
abbrev pub is_disk_fault : StoreFault → Bool
is_disk_fault fault.Disk = true
is_disk_fault (fault.Collision name held given) = false
is_disk_fault (fault.Unsteady pn task held given) = false
is_disk_fault fault.Memory = false

-- whether the answer is that the disk failed
abbrev pub store_failed : {T : Type 0} → Result T StoreFault → Bool
store_failed (Ok x) = false
store_failed (Err f) = is_disk_fault f

-- a fault of the disk, as a store's
abbrev pub of_disk : DiskFault → StoreFault
of_disk disk.Failed = fault.Disk
of_disk disk.Memory = fault.Memory

-- The row of the name has another signature: two byte strings that differ have one digest, the short texts of the two, or their keys.
pub record IsCollision (rows : List EquivRow) (at : Hash) (bytes : List ℕ) (name : Hash) (held given : List ℕ) : Type 0 where
  pub row : EquivRow
  pub is_row : row_at rows at ≡ Some row
  pub told : AreToldApart row.sig bytes at name held given

-- it tells these two apart
abbrev pub IsTelling : Hash → List ℕ → List ℕ → StoreFault → Type 0
IsTelling name held given f = f ≡ fault.Collision name held given

-- why a question about a signature is refused: want of memory and the disk are free here
abbrev pub IsClash : List EquivRow → Hash → List ℕ → StoreFault → Type 0
IsClash rows at bytes fault.Disk = Unit {0}
IsClash rows at bytes fault.Memory = Unit {0}
IsClash rows at bytes (fault.Collision name held given) = IsCollision rows at bytes name held given
IsClash rows at bytes (fault.Unsteady pn task held given) = ⊥

-- The row of the task's name has its signature and another manifest: the task's output differs from one run to another.
pub record IsUnsteady (rows : List EquivRow) (s : Signed) (tree : Entries) (fault_of : StoreFault) : Type 0 where
  pub row : EquivRow
  pub is_row : row_at rows (name_of s.sig) ≡ Some row
  pub same : row.sig ≡ signature_bytes s.sig
  pub differ : row.manifest ≢ manifest_lines tree
  pub is : fault_of ≡ fault.Unsteady s.task.id.pn s.task.id.task row.manifest (manifest_lines tree)

-- Another key is known under the name of the signature's: two keys that differ have the digest that is the name.
pub record IsKeyCollision (keys : List (List ℕ)) (sig : SigRecord) (name : Hash) (held given : List ℕ) : Type 0 where
  pub name_is : name ≡ key_name sig.key
  pub held_is : key_named keys name ≡ Some held
  pub given_is : given ≡ key_bytes sig.key
  pub differ : held ≢ given
  pub held_name : sha256 held ≡ name.bytes
  pub given_name : sha256 given ≡ name.bytes

-- why a publication is refused
abbrev pub IsRefusal : List EquivRow → List (List ℕ) → Signed → Entries → StoreFault → Type 0
IsRefusal rows keys s tree fault.Disk = Unit {0}
IsRefusal rows keys s tree fault.Memory = Unit {0}
IsRefusal rows keys s tree (fault.Collision name held given) =
    IsCollision rows (name_of s.sig) (signature_bytes s.sig) name held given ⊎ IsKeyCollision keys s.sig name held given
IsRefusal rows keys s tree (fault.Unsteady pn task held given) = IsUnsteady rows s tree (fault.Unsteady pn task held given)

-- whether the fault is the disk's, or want of memory
abbrev pub IsOutside : StoreFault → Type 0
IsOutside fault.Disk = Unit {0}
IsOutside fault.Memory = Unit {0}
IsOutside (fault.Collision name held given) = ⊥
IsOutside (fault.Unsteady pn task held given) = ⊥

-- what holds where the fault is neither the disk's nor want of memory
abbrev pub OnDifference : StoreFault → Type 0 → Type 0
OnDifference fault.Disk P = Unit {0}
OnDifference fault.Memory P = Unit {0}
OnDifference (fault.Collision name held given) P = P
OnDifference (fault.Unsteady pn task held given) P = P

-- what holds where it is want of memory
abbrev pub OnMemory : StoreFault → Type 0 → Type 0
OnMemory fault.Disk P = Unit {0}
OnMemory fault.Memory P = P
OnMemory (fault.Collision name held given) P = Unit {0}
OnMemory (fault.Unsteady pn task held given) P = Unit {0}

-- a row's signature is other than the one that is given: want of memory is free
abbrev pub IsOtherSignature : EquivRow → List ℕ → StoreFault → Type 0
IsOtherSignature row bytes fault.Disk = ⊥
IsOtherSignature row bytes fault.Memory = Unit {0}
IsOtherSignature row bytes (fault.Collision name held given) = AreToldApart row.sig bytes row.name name held given
IsOtherSignature row bytes (fault.Unsteady pn task held given) = ⊥
