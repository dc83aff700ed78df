-- Why a mirror's records can't come, as it is found in memory.
use Rattle.std.specs.Prelude.{◌≡◌, ◌≢◌, ◌⊎◌, ℕ, List, Contains, Some}
use Rattle.tree_model.specs.declared.manifest.ManifestLine.{ManifestLine}
use Rattle.outside_traits.specs.Store.{Store}
use Rattle.store_model.specs.declared.signature.EquivRow.{EquivRow}
use Rattle.store_model.specs.Origins.{Book}
use Rattle.store_model.specs.Rows.{row_at}
use Rattle.store_move.specs.Formats.{Format, rows_of}
use Rattle.store_move.specs.Moves.{present}
use Rattle.store_opening.specs.Survey.{AreJudged}
use Rattle.record_move.specs.declared.fault.MoveFault.{MoveFault}
use Rattle.record_move.specs.declared.moving.Moved.{Moved}
use Rattle.record_move.specs.declared.records.MovedRecord.{MovedRecord}
use Rattle.record_move.specs.declared.records.OldRecord.{OldRecord}
use Rattle.record_move.specs.Faults.{IsMoveFault}
use Rattle.record_move.specs.Moved.{AreLinesOf}
use Rattle.store_upgrade.specs.Faults.{IsDigestClash}
use Rattle.sstate_mirror.specs.declared.fault.BringFault.{BringFault}
use Rattle.sstate_mirror.specs.declared.fault.BringFault.TheVariants as bring
use Rattle.sstate_mirror.specs.Faults.{of_move}
use Rattle.sstate_mirror.specs.Steps.{AreGathered, IsTranslated}
use Rattle.sstate_mirror.specs.Wanted.{Titles}

-- ---- manifests

-- the two manifests, with the PN and the task of the second row, or want of memory
abbrev pub IsDifferOf : EquivRow → EquivRow → BringFault → Type 0
IsDifferOf here there bring.Mirror = ⊥
IsDifferOf here there bring.Disk = ⊥
IsDifferOf here there (bring.Collision n h g) = ⊥
IsDifferOf here there (bring.KeyCollision n h g) = ⊥
IsDifferOf here there (bring.Differs pn task held given) = (pn ≡ there.pn) × (task ≡ there.task) × (held ≡ here.manifest) × (given ≡ there.manifest)
IsDifferOf here there bring.Memory = Unit {0}

-- the rows of a moved record, here and on the mirror, have one manifest
abbrev pub AgreeAt : List EquivRow → List EquivRow → MovedRecord → Type 0
AgreeAt theirs rows m = (here there : EquivRow) → row_at rows m.name ≡ Some here → row_at theirs m.old_name ≡ Some there → here.manifest ≡ there.manifest

-- ... have two
pub record HaveTwo (theirs rows : List EquivRow) (m : MovedRecord) (pn task : List ℕ) (held given : List ManifestLine) : Type 0 where
  pub here : EquivRow
  pub there : EquivRow
  pub at_here : row_at rows m.name ≡ Some here
  pub at_there : row_at theirs m.old_name ≡ Some there
  pub pn_is : there.pn ≡ pn
  pub task_is : there.task ≡ task
  pub held_is : here.manifest ≡ held
  pub given_is : there.manifest ≡ given
  pub differ : held ≢ given

abbrev pub Differ : List EquivRow → List EquivRow → MovedRecord → BringFault → Type 0
Differ theirs rows m bring.Mirror = ⊥
Differ theirs rows m bring.Disk = ⊥
Differ theirs rows m (bring.Collision name held given) = ⊥
Differ theirs rows m (bring.KeyCollision name held given) = ⊥
Differ theirs rows m (bring.Differs pn task held given) = HaveTwo theirs rows m pn task held given
Differ theirs rows m bring.Memory = Unit {0}

-- ---- all that may be found

-- it was none that is found: one of the disks failed, or memory is wanting
abbrev pub IsNoFinding : BringFault → Type 0
IsNoFinding bring.Mirror = Unit {0}
IsNoFinding bring.Disk = Unit {0}
IsNoFinding (bring.Collision name held given) = ⊥
IsNoFinding (bring.KeyCollision name held given) = ⊥
IsNoFinding (bring.Differs pn task held given) = ⊥
IsNoFinding bring.Memory = Unit {0}

-- two keys of own records have one digest
pub record IsKeyRefusal (fault : BringFault) : Type 0 where
  pub move : MoveFault
  pub is : fault ≡ of_move move
  pub clash : IsDigestClash move

-- the wanted records can't be moved behind the own ones
pub record IsMoveRefusal (wanted : Titles) (theirs own : List EquivRow) (fault : BringFault) : Type 0 where
  pub move : MoveFault
  pub is : fault ≡ of_move move
  pub records : List OldRecord
  pub keys : List (List ℕ)
  pub gathered : AreGathered wanted theirs records
  pub refused : (form : Format) (book start : Book) → AreLinesOf form records book → own ≡ rows_of present start → IsMoveFault form start book keys move

-- one that was moved differs in its manifest
pub record IsManifestRefusal (wanted : Titles) (theirs own : List EquivRow) (fault : BringFault) : Type 0 where
  pub moved : Moved
  pub translated : IsTranslated wanted theirs own moved
  pub m : MovedRecord
  pub among : Contains moved.records.items m
  pub differ : Differ theirs moved.rows m fault

abbrev pub IsRefusal : Titles → List EquivRow → List EquivRow → BringFault → Type 0
IsRefusal wanted theirs own fault = IsNoFinding fault ⊎ (IsKeyRefusal fault ⊎ (IsMoveRefusal wanted theirs own fault ⊎ IsManifestRefusal wanted theirs own fault))

-- ... of what the mirror holds
abbrev pub IsFindFault : Titles → List EquivRow → Store → BringFault → Type 0
IsFindFault wanted own mirror fault = IsNoFinding fault ⊎ ((theirs : List EquivRow) × AreJudged mirror theirs × IsRefusal wanted theirs own fault)
