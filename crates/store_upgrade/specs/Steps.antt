-- What each step of a move does to what a disk holds, whatever that is.
use Rattle.std.specs.Prelude.{◌≡◌, ◌≢◌, ◌⊎◌, ◌∷◌, [], ◌<◌, ℕ, List, false, codes, Contains, IsSome, None, OnOk, Result, Some}
use Rattle.tree_model.specs.declared.entry.Entry.{Entry}
use Rattle.tree_model.specs.declared.entry.Entry.TheVariants.{File}
use Rattle.tree_model.specs.declared.hash.Hash.{Hash}
use Rattle.tree_model.specs.declared.manifest.ManifestLine.{ManifestLine}
use Rattle.tree_model.specs.Hash.{IsHash, hash_text}
use Rattle.tree_model.specs.Path.{IsAtOrBelow, IsBelow}
use Rattle.outside_traits.specs.declared.fault.DiskFault.{DiskFault}
use Rattle.outside_traits.specs.Passes.{Passes, Same}
use Rattle.outside_traits.specs.Store.{Moves, Store, slashes}
use Rattle.outside_traits.specs.Story.{Story}
use Rattle.stamp_store.specs.Stamp.{IsFolder, stamp_of, stamp_path, staged_path}
use Rattle.store_model.specs.Available.{Matches, object_folder}
use Rattle.store_model.specs.declared.signature.EquivRow.{EquivRow}
use Rattle.store_model.specs.Paths.{key_path, record_path}
use Rattle.store_model.specs.Publication.{record_file}
use Rattle.store_model.specs.Readable.{HasShortPaths}
use Rattle.store_model.specs.Rows.{row_at}
use Rattle.store_model.specs.Spelling.{key_bytes, key_name}
use Rattle.store_opening.specs.Paths.{staged_record_path}
use Rattle.record_move.specs.declared.records.AddedRecord.{AddedRecord}
use Rattle.record_move.specs.declared.records.MovedRecord.{MovedRecord}

-- nothing changes but at a folder and below it
pub record Within (folder : List ℕ) (old new : Store) : Type 0 where
  pub others : (q : List ℕ) → (IsAtOrBelow folder q → ⊥) → new q ≡ old q

-- nothing changes but below a folder
pub record Below (folder : List ℕ) (old new : Store) : Type 0 where
  pub others : (q : List ℕ) → (IsBelow folder q → ⊥) → new q ≡ old q

-- ---- objects

-- The row of the record's name has this manifest, whose paths are short.
pub record HasManifest (rows : List EquivRow) (m : MovedRecord) (row : EquivRow) : Type 0 where
  pub is_row : row_at rows m.name ≡ Some row
  pub short : HasShortPaths row.manifest

-- an object that matched is there under the new unihash
abbrev pub IsCopied : List EquivRow → MovedRecord → Store → Store → Type 0
IsCopied rows m held now = (row : EquivRow) → HasManifest rows m row → Matches held (object_folder m.old_unihash) row.manifest → Matches now (object_folder m.unihash) row.manifest

-- what matched under the new unihash does so still, where it is what the record's row has
abbrev pub KeepsObject : List EquivRow → MovedRecord → Store → Store → Type 0
KeepsObject rows m held now = (lines : List ManifestLine) → ((row : EquivRow) → row_at rows m.name ≡ Some row → row.manifest ≡ lines) → Matches held (object_folder m.unihash) lines → Matches now (object_folder m.unihash) lines

-- Unihashes are digests, no new one is an old one, and those with one new unihash have one manifest: so no copy is in the way of another.
pub record AreNoneInTheWay (rows : List EquivRow) (moved : List MovedRecord) : Type 0 where
  pub hashes : (m : MovedRecord) → Contains moved m → IsHash m.unihash × IsHash m.old_unihash
  pub apart : (m n : MovedRecord) → Contains moved m → Contains moved n → m.unihash ≢ n.old_unihash
  pub one : (m n : MovedRecord) (row other : EquivRow) → Contains moved m → Contains moved n → m.unihash ≡ n.unihash → row_at rows m.name ≡ Some row → row_at rows n.name ≡ Some other → row.manifest ≡ other.manifest

-- ---- keys

-- each of these records that has a key of this name has this one
abbrev pub HaveOneKey : List AddedRecord → Hash → List ℕ → Type 0
HaveOneKey added name bytes = (a : AddedRecord) → Contains added a → key_name a.stored.sig.key ≡ name → key_bytes a.stored.sig.key ≡ bytes

abbrev pub key_of : AddedRecord → Entry
key_of a = File false (key_bytes a.stored.sig.key)

-- Keys of these records are written: nothing else changes, and none where this store holds the right one.
pub record PutsKeys (added : List AddedRecord) (held old new : Store) : Type 0 where
  pub others : (q : List ℕ) → ((a : AddedRecord) → Contains added a → q ≢ key_path (key_name a.stored.sig.key)) → new q ≡ old q
  pub right : (name : Hash) (bytes : List ℕ) → IsHash name → held (key_path name) ≡ Some (File false bytes) → HaveOneKey added name bytes → new (key_path name) ≡ old (key_path name)

-- no two keys of these records have one name
abbrev pub KeysDiffer : List AddedRecord → Type 0
KeysDiffer added = (a : AddedRecord) → Contains added a → HaveOneKey added (key_name a.stored.sig.key) (key_bytes a.stored.sig.key)

-- the key of each of these records is held
abbrev pub HoldsKeys : List AddedRecord → Store → Type 0
HoldsKeys added held = (a : AddedRecord) → Contains added a → held (key_path (key_name a.stored.sig.key)) ≡ Some (key_of a)

-- ---- records

-- each of these records stands where it is written first
abbrev pub AreStaged : List AddedRecord → Store → Type 0
AreStaged added held = (a : AddedRecord) → Contains added a → held (staged_record_path a.name) ≡ Some (record_file a.stored)

-- Records are written where they are written first: nothing else changes.
pub record StagesRecords (added : List AddedRecord) (old new : Store) : Type 0 where
  pub others : (q : List ℕ) → ((a : AddedRecord) → Contains added a → q ≢ staged_record_path a.name) → new q ≡ old q

-- no two of them have one name
abbrev pub NamesDiffer : List AddedRecord → Type 0
NamesDiffer added = (a b : AddedRecord) → Contains added a → Contains added b → hash_text a.name ≡ hash_text b.name → a ≡ b

-- What one renaming does: what was held where it was written first stands at its place, and nothing is held there any more.
pub record PutsOne (from to : List ℕ) (old new : Story) {T : Type 0} (result : Result T DiskFault) : Type 0 where
  pub put : OnOk result ((e : Entry) → old.held from ≡ Some e → new.held to ≡ Some e)
  pub gone : OnOk result (new.held from ≡ None)
  pub moves : Passes old new (Moves from to (old.held from))
  pub same : old.held from ≡ None → Passes old new Same

-- that of a record
abbrev pub PutsRecord : Hash → Story → Story → {T : Type 0} → Result T DiskFault → Type 0
PutsRecord name old new result = PutsOne (staged_record_path name) (record_path name) old new result

-- ... of a record that is of a round; of another one nothing changes
abbrev pub PutsOfRound : AddedRecord → ℕ → Story → Story → {T : Type 0} → Result T DiskFault → Type 0
PutsOfRound a round old new result = ((a.round ≡ round) × PutsRecord a.name old new result) ⊎ ((a.round ≢ round) × Passes old new Same)

-- the path is neither the place of one of these records of a round nor where it is written first
abbrev pub IsNoneOf : List AddedRecord → ℕ → List ℕ → Type 0
IsNoneOf added round q = (a : AddedRecord) → Contains added a → a.round ≡ round → (q ≢ record_path a.name) × (q ≢ staged_record_path a.name)

-- the record's place holds what it held, or what this store holds where the record was written first
abbrev pub IsPutOrNot : AddedRecord → Store → Store → Store → Type 0
IsPutOrNot a staged old new = (new (record_path a.name) ≡ old (record_path a.name)) ⊎ ((e : Entry) × (staged (staged_record_path a.name) ≡ Some e) × (new (record_path a.name) ≡ Some e))

-- The records of one round are renamed to their places: each place holds what it held, or what this store holds where the record was written first.
pub record PutsRound (added : List AddedRecord) (round : ℕ) (staged old new : Store) : Type 0 where
  pub others : (q : List ℕ) → IsNoneOf added round q → new q ≡ old q
  pub put : (a : AddedRecord) → Contains added a → a.round ≡ round → IsPutOrNot a staged old new

-- each record of the round that was written first stands at its place
abbrev pub RoundIsPut : List AddedRecord → ℕ → Store → Store → Type 0
RoundIsPut added round staged now = (a : AddedRecord) (e : Entry) → Contains added a → a.round ≡ round → staged (staged_record_path a.name) ≡ Some e → now (record_path a.name) ≡ Some e

-- the path is neither the place of one of these records nor where it is written first
abbrev pub IsNone : List AddedRecord → List ℕ → Type 0
IsNone added q = (a : AddedRecord) → Contains added a → (q ≢ record_path a.name) × (q ≢ staged_record_path a.name)

-- Of records with names of their own those of all rounds before one stand, those of that one may, and none of a later one does.
pub record AreInRounds (added : List AddedRecord) (held image : Store) : Type 0 where
  pub round : ℕ
  pub earlier : (a : AddedRecord) (e : Entry) → Contains added a → a.round < round → held (staged_record_path a.name) ≡ Some e → image (record_path a.name) ≡ Some e
  pub now : (a : AddedRecord) → Contains added a → a.round ≡ round → IsPutOrNot a held held image
  pub later : (a : AddedRecord) → Contains added a → round < a.round → image (record_path a.name) ≡ held (record_path a.name)

-- What stands at each moment while records are renamed to their places round by round, over what this store holds.
pub record PutsRounds (added : List AddedRecord) (held image : Store) : Type 0 where
  pub others : (q : List ℕ) → IsNone added q → image q ≡ held q
  pub rounds : NamesDiffer added → AreInRounds added held image

-- each of the records stands at its place
abbrev pub ArePut : List AddedRecord → Store → Type 0
ArePut added held = (a : AddedRecord) → Contains added a → held (record_path a.name) ≡ Some (record_file a.stored)

-- ---- stamps

-- where each stamp is written first it says its new name
abbrev pub AreStagedStamps : List (List ℕ × Hash) → Store → Type 0
AreStagedStamps stamps held = (folder : List ℕ) (name : Hash) → Contains stamps (folder, name) → held (staged_path folder) ≡ Some (stamp_of name)

-- Stamps are renamed to their places: each place holds what it held, or the stamp that says the new name.
pub record PutsStamps (stamps : List (List ℕ × Hash)) (old new : Store) : Type 0 where
  pub others : (q : List ℕ) → ((folder : List ℕ) (name : Hash) → Contains stamps (folder, name) → (q ≢ stamp_path folder) × (q ≢ staged_path folder)) → new q ≡ old q
  pub put : (folder : List ℕ) (name : Hash) → Contains stamps (folder, name) → (new (stamp_path folder) ≡ old (stamp_path folder)) ⊎ (new (stamp_path folder) ≡ Some (stamp_of name))

-- each stamp says its new name
abbrev pub AreStamped : List (List ℕ × Hash) → Store → Type 0
AreStamped stamps held = (folder : List ℕ) (name : Hash) → Contains stamps (folder, name) → held (stamp_path folder) ≡ Some (stamp_of name)

-- the folders of these stamps are two parts of a path each
abbrev pub AreFolders : List (List ℕ × Hash) → Type 0
AreFolders stamps = (folder : List ℕ) (name : Hash) → Contains stamps (folder, name) → IsFolder folder × (slashes folder ≡ 1)

-- each folder has one name
abbrev pub HaveOneName : List (List ℕ × Hash) → Type 0
HaveOneName stamps = (folder : List ℕ) (name other : Hash) → Contains stamps (folder, name) → Contains stamps (folder, other) → name ≡ other

-- something is held at the place of each
abbrev pub AreHeld : List (List ℕ × Hash) → Store → Type 0
AreHeld stamps held = (folder : List ℕ) (name : Hash) → Contains stamps (folder, name) → IsSome (held (stamp_path folder))

-- ---- the end

-- the file `format` of the present format
abbrev pub present_format : Entry
present_format = File false (50 ∷ 10 ∷ [])

-- What is under `format/` goes, and `format` comes to say the present format: it holds what it held, or that.
pub record Ends (old new : Store) : Type 0 where
  pub others : (q : List ℕ) → (IsAtOrBelow (codes "format") q → ⊥) → (IsAtOrBelow (codes "tmp") q → ⊥) → new q ≡ old q
  pub format : (new (codes "format") ≡ old (codes "format")) ⊎ (new (codes "format") ≡ Some present_format)
