-- What copying objects from a mirror does.
use Rattle.std.specs.Prelude.{◌≡◌, ◌≢◌, ◌⊎◌, ◌+◌, ℕ, Bool, true, false, List, [], ◌∷◌, Contains, codes, length}
use Rattle.std.specs.List.{AllByRecursion}
use Rattle.tree_model.specs.declared.manifest.ManifestLine.{ManifestLine}
use Rattle.tree_model.specs.Hash.{IsHash}
use Rattle.tree_model.specs.Path.{IsAtOrBelow}
use Rattle.outside_traits.specs.Store.{AgreesRound, Store}
use Rattle.store_model.specs.declared.signature.EquivRow.{EquivRow}
use Rattle.store_model.specs.Available.{Matches, object_folder}
use Rattle.record_move.specs.declared.records.MovedRecord.{MovedRecord}
use Rattle.store_upgrade.specs.Steps.{HasManifest}
use Rattle.sstate_mirror.specs.Brought.{KeepsObjects}

-- ---- one object

-- Whether an object was copied: the mirror's matched, and the own one didn't, and does now; else nothing changed, and the own one matches where the mirror's does.
abbrev pub IsCopy : List ℕ → List ℕ → List ManifestLine → Store → Store → Store → Bool → Type 0
IsCopy from to lines mirror old new true = Matches mirror from lines × ((Matches old to lines → ⊥) × Matches new to lines)
IsCopy from to lines mirror old new false = (new ≡ old) × (Matches mirror from lines → Matches old to lines)

-- nothing changes, or what is at and under a folder that doesn't match
abbrev pub PutsUnless : List ℕ → List ManifestLine → Store → Store → Store → Type 0
PutsUnless folder lines held old new = (new ≡ old) ⊎ (AgreesRound folder held old new × (Matches held folder lines → ⊥))

-- ---- that of a moved record: its manifest and its unihash are those of the row of its name

abbrev pub IsCopyOf : List EquivRow → MovedRecord → Store → Store → Store → Bool → Type 0
IsCopyOf rows m mirror old new copied =
    ((row : EquivRow) × HasManifest rows m row × IsCopy (object_folder m.old_unihash) (object_folder row.unihash) row.manifest mirror old new copied)
    ⊎ (((row : EquivRow) → HasManifest rows m row → ⊥) × ((new ≡ old) × (copied ≡ false)))

abbrev pub PutsOne : List EquivRow → MovedRecord → Store → Store → Store → Type 0
PutsOne rows m held old new = (new ≡ old) ⊎ ((row : EquivRow) × HasManifest rows m row × PutsUnless (object_folder row.unihash) row.manifest held old new)

-- ---- all of them

-- unihashes are digests, and rows of one unihash have one manifest
pub record HaveOneObject (rows : List EquivRow) : Type 0 where
  pub hashes : (row : EquivRow) → Contains rows row → IsHash row.unihash
  pub one : (row other : EquivRow) → Contains rows row → Contains rows other → row.unihash ≡ other.unihash → row.manifest ≡ other.manifest

-- At each moment nothing else changed, and no object of these rows that matched is lost.
pub record IsCopying (rows : List EquivRow) (held image : Store) : Type 0 where
  pub others : (q : List ℕ) → (IsAtOrBelow (codes "obj") q → ⊥) → image q ≡ held q
  pub kept : HaveOneObject rows → KeepsObjects rows held image

-- An object was copied, which is that of this row.
pub record IsNew (rows : List EquivRow) (records : List MovedRecord) (mirror held now : Store) (row : EquivRow) : Type 0 where
  pub m : MovedRecord
  pub among : Contains records m
  pub manifest : HasManifest rows m row
  pub source : Matches mirror (object_folder m.old_unihash) row.manifest
  pub was_not : Matches held (object_folder row.unihash) row.manifest → ⊥
  pub is : Matches now (object_folder row.unihash) row.manifest

-- no two of these rows have one object
abbrev pub AreRowsApart : List EquivRow → Type 0
AreRowsApart [] = Unit {0}
AreRowsApart (row ∷ rows) = AllByRecursion (λ (other : EquivRow). row.unihash ≢ other.unihash) rows × AreRowsApart rows

-- the object of the row matches
abbrev pub HasObject : Store → EquivRow → Type 0
HasObject held row = Matches held (object_folder row.unihash) row.manifest

-- So many objects were copied, and no more: what matches now matched before, or was copied; and of these records each has its object that has one on the mirror.
pub record AreCopied (rows : List EquivRow) (records : List MovedRecord) (mirror held now : Store) (count : ℕ) : Type 0 where
  pub copied : List EquivRow
  pub many : length copied ≡ count
  pub each : AllByRecursion (IsNew rows records mirror held now) copied
  pub apart : AreRowsApart copied
  pub there : (m : MovedRecord) (row : EquivRow) → Contains records m → HasManifest rows m row → Matches mirror (object_folder m.old_unihash) row.manifest → HasObject now row
  pub whole : (row : EquivRow) → Contains rows row → HasObject now row → HasObject held row ⊎ ((other : EquivRow) × Contains copied other × (other.unihash ≡ row.unihash))

-- one more where an object was copied
abbrev pub count_with : Bool → ℕ → ℕ
count_with true count = count + 1
count_with false count = count
