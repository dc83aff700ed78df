-- What the writing of a move does to a store, whatever that holds: by the move that was made in memory.
use Rattle.std.specs.Prelude.{◌≡◌, ◌≢◌, ◌⊎◌, ◌<◌, ℕ, List, false, codes, Contains, Some}
use Rattle.tree_model.specs.declared.entry.Entry.TheVariants.{File}
use Rattle.tree_model.specs.declared.hash.Hash.{Hash}
use Rattle.tree_model.specs.Hash.{IsHash}
use Rattle.tree_model.specs.Path.{IsAtOrBelow, inside}
use Rattle.outside_traits.specs.Store.{Store}
use Rattle.sig_gen.specs.Stored.{IsInOrder}
use Rattle.stamp_store.specs.Stamp.{stamp_of, stamp_path}
use Rattle.store_model.specs.Paths.{key_path, record_path}
use Rattle.store_model.specs.Publication.{record_file}
use Rattle.store_model.specs.Spelling.{key_name, record_bytes}
use Rattle.store_model.specs.Stored.{SpellsStored}
use Rattle.store_move.specs.Stores.{IsDone}
use Rattle.record_move.specs.declared.moving.Moved.{Moved}
use Rattle.record_move.specs.declared.records.AddedRecord.{AddedRecord}
use Rattle.record_move.specs.declared.records.MovedRecord.{MovedRecord}
use Rattle.store_upgrade.specs.Halfway.{IsBeside}
use Rattle.store_upgrade.specs.Stamps.{AreRenewed, IsRenewed}
use Rattle.store_upgrade.specs.Steps.{present_format, AreNoneInTheWay, ArePut, HaveOneKey, HoldsKeys, IsCopied, KeysDiffer, NamesDiffer, AreHeld, AreStaged, AreStagedStamps, PutsRounds}

-- each record that was written has its spelling, where its lists are in order
abbrev pub AreWritten : Moved → Type 0
AreWritten moved = (a : AddedRecord) → Contains moved.added.items a → IsInOrder a.stored → SpellsStored (record_bytes a.stored) a.stored

-- the records that are there: of all rounds before one, and any of that one
pub record HoldsRounds (added : List AddedRecord) (held image : Store) : Type 0 where
  pub round : ℕ
  pub earlier : (a : AddedRecord) → Contains added a → a.round < round → image (record_path a.name) ≡ Some (record_file a.stored)
  pub now : (a : AddedRecord) → Contains added a → a.round ≡ round → (image (record_path a.name) ≡ held (record_path a.name)) ⊎ (image (record_path a.name) ≡ Some (record_file a.stored))
  pub later : (a : AddedRecord) → Contains added a → round < a.round → image (record_path a.name) ≡ held (record_path a.name)

-- Before a record is put nothing changed but objects, temporary files and the added records' keys, of which none changed that was right
pub record IsEarly (added : List AddedRecord) (held image : Store) : Type 0 where
  pub others : (q : List ℕ) → (IsAtOrBelow (codes "obj") q → ⊥) → (IsAtOrBelow (codes "tmp") q → ⊥) → ((a : AddedRecord) → Contains added a → q ≢ key_path (key_name a.stored.sig.key)) → image q ≡ held q
  pub keys : (name : Hash) (bytes : List ℕ) → IsHash name → held (key_path name) ≡ Some (File false bytes) → HaveOneKey added name bytes → image (key_path name) ≡ held (key_path name)

-- What stands at each moment while a move is written over what this store holds.
pub record Writes (moved : Moved) (held image : Store) : Type 0 where
  pub beside : (q : List ℕ) → IsBeside q → image q ≡ held q
  -- other records stay, and those that are added come round by round
  pub records : (path : List ℕ) → ((a : AddedRecord) → Contains moved.added.items a → inside (codes "rec2") path ≢ record_path a.name) → image (inside (codes "rec2") path) ≡ held (inside (codes "rec2") path)
  pub rounds : NamesDiffer moved.added.items → HoldsRounds moved.added.items held image
  -- keys that are right stay, and where an added record is there, all keys are
  pub keys : (name : Hash) (bytes : List ℕ) → IsHash name → held (key_path name) ≡ Some (File false bytes) → HaveOneKey moved.added.items name bytes → image (key_path name) ≡ held (key_path name)
  pub keyed : KeysDiffer moved.added.items → HoldsKeys moved.added.items image ⊎ ((a : AddedRecord) → Contains moved.added.items a → image (record_path a.name) ≡ held (record_path a.name))
  -- `format` is what it was, or all is there
  pub format : (image (codes "format") ≡ held (codes "format")) ⊎ (IsDone image × (NamesDiffer moved.added.items → ArePut moved.added.items image))

-- What stands once all records are put: stamps, temporary files and `format` alone change.
pub record IsLate (base image : Store) : Type 0 where
  pub others : (q : List ℕ) → (IsAtOrBelow (codes "stamp") q → ⊥) → (IsAtOrBelow (codes "tmp") q → ⊥) → (IsAtOrBelow (codes "format") q → ⊥) → image q ≡ base q
  pub format : (image (codes "format") ≡ base (codes "format")) ⊎ (image (codes "format") ≡ Some present_format)

-- What stands when it is written.
pub record IsWritten (moved : Moved) (held now : Store) : Type 0 where
  pub writes : Writes moved held now
  pub done : IsDone now
  pub put : NamesDiffer moved.added.items → ArePut moved.added.items now
  pub keyed : KeysDiffer moved.added.items → HoldsKeys moved.added.items now
  pub objects : AreNoneInTheWay moved.rows moved.records.items → (m : MovedRecord) → Contains moved.records.items m → IsCopied moved.rows m held now
  pub stamps : (folder : List ℕ) (name : Hash) → IsRenewed held moved.records.items folder name → now (stamp_path folder) ≡ Some (stamp_of name)

-- ---- the two halves

-- the stamps that are renewed of what was held first, each held still, and written where it is written first
pub record ArePrepared (held now : Store) (moved : List MovedRecord) (stamps : List (List ℕ × Hash)) : Type 0 where
  pub renewed : AreRenewed held moved stamps
  pub held_still : AreHeld stamps now
  pub staged : AreStagedStamps stamps now

-- What stands at each moment while what was prepared is put: records come round by round, or all are put, and nothing but stamps, temporary files and `format`
-- changed besides.
abbrev pub PutsPrepared : Moved → Store → Store → Type 0
PutsPrepared moved held image = PutsRounds moved.added.items held image ⊎ ((base : Store) × PutsRounds moved.added.items held base × (NamesDiffer moved.added.items → AreStaged moved.added.items held → ArePut moved.added.items base) × IsLate base image)
