-- What opening a store leaves of a disk.
use Rattle.std.specs.Prelude.{◌≡◌, ◌≢◌, ◌⊎◌, ℕ, false, List, [], codes, filter_map, map, slice_get, Some, None, IsSome}
use Rattle.std.specs.List.{AllByRecursion}
use Rattle.sha2.specs.Sha256.{sha256}
use Rattle.tree_model.specs.declared.entry.Entry.TheVariants.{File}
use Rattle.tree_model.specs.declared.hash.Hash.{Hash}
use Rattle.tree_model.specs.Hash.{IsHash}
use Rattle.tree_model.specs.Path.{IsAtOrBelow, IsBelow, inside}
use Rattle.outside_traits.specs.Store.{Store}
use Rattle.store_model.specs.declared.signature.EquivRow.{EquivRow}
use Rattle.store_model.specs.Spelling.{short_bytes, short_name, short_record, whole_text}
use Rattle.store_model.specs.Stored.{SpellsShort}
use Rattle.store_model.specs.declared.candidate.Candidate.{Candidate}
use Rattle.store_model.specs.Believed.{Ascend, AreBelieved, IsAmong, IsBelieved}
use Rattle.store_model.specs.Paths.{key_path, record_path}
use Rattle.outside_traits.specs.Store.{slashes}
use Rattle.store_model.specs.Publication.{short_file, stamp_at, stamp_file, work_at}
use Rattle.store_model.specs.Readable.{HasShortPaths}

-- these bytes are held as a key: by a file that can't be executed, under their digest
pub record HoldsKey (held : Store) (name : Hash) (key : List ℕ) : Type 0 where
  pub file : held (key_path name) ≡ Some (File false key)
  pub digest : sha256 key ≡ name.bytes

-- A file under `rec2/` that may be believed: it can't be executed, its bytes are the spelling of a record whose manifest has no path of more than 3,072
-- bytes, it stands under the name of that record's signature, and the key that this names is held (own rule). What the key says isn't looked at: the
-- digest tells that the bytes are whole, and a plan's key is compared with them.
pub record IsRecordFile (held : Store) (c : Candidate) : Type 0 where
  pub file : held (record_path c.name) ≡ Some (short_file c.stored)
  pub name : c.name ≡ short_name c.stored.sig
  pub spelled : SpellsShort (short_record c.stored) c.stored
  pub short : HasShortPaths c.stored.manifest
  pub key : List ℕ
  pub key_held : HoldsKey held c.stored.sig.key key
  pub text : c.sig ≡ whole_text (short_bytes c.stored.sig) key

-- just such files, each once, in the order of their names
pub record AreFound (held : Store) (candidates : List Candidate) : Type 0 where
  pub ascend : Ascend candidates
  pub each : AllByRecursion (IsRecordFile held) candidates
  pub whole : (c : Candidate) → IsRecordFile held c → IsAmong candidates c

-- a believed record of what is held: the believed ones are the least set of candidates that `record_belief` tells of
pub record IsBelievedRecord (held : Store) (c : Candidate) : Type 0 where
  pub candidates : List Candidate
  pub found : AreFound held candidates
  pub believed : IsBelieved candidates c

-- a stamp: a file `stamp/A/B` that says a digest and can't be executed, where `work/A/B` can be a folder: nothing is held above it
pub record IsStamp (held : Store) (path : List ℕ) : Type 0 where
  pub name : Hash
  pub is_hash : IsHash name
  pub two : slashes path ≡ 1
  pub file : held (stamp_at path) ≡ Some (stamp_file name)
  pub way : (q : List ℕ) → IsBelow q (work_at path) → held q ≡ None

-- The path is neither `rec2`, `key`, `stamp` or `tmp` nor under one of them, nor is it `obj`, where a folder stands.
pub record IsElsewhere (q : List ℕ) : Type 0 where
  pub records : IsAtOrBelow (codes "rec2") q → ⊥
  pub keys : IsAtOrBelow (codes "key") q → ⊥
  pub stamps : IsAtOrBelow (codes "stamp") q → ⊥
  pub temporary : IsAtOrBelow (codes "tmp") q → ⊥
  pub objects : q ≢ codes "obj"

-- where a key may stand, whatever is held there: one that is wrong is written again when its task is published (own rule)
abbrev pub IsKeyPlace : List ℕ → Type 0
IsKeyPlace q = (name : Hash) × IsHash name × (q ≡ key_path name)

-- A path that opening leaves alone: it stands elsewhere, or it has a believed record, or it is the place of a key, or it has a stamp, or nothing is
-- held there.
abbrev pub IsLeft : Store → List ℕ → Type 0
IsLeft held q =
    IsElsewhere q
    ⊎ (((c : Candidate) × IsBelievedRecord held c × (q ≡ record_path c.name))
    ⊎ (IsKeyPlace q
    ⊎ (((path : List ℕ) × IsStamp held path × (q ≡ stamp_at path))
    ⊎ (held q ≡ None))))

-- A stamp that opening takes away: a record tells of its task that it gave nothing, and something is held at `work` or `work/PN`, so that no folder
-- can be at `work/PN/TASK`. The task isn't available there, and would be once what is in the way is gone.
pub record IsBlocked (held : Store) (q : List ℕ) : Type 0 where
  pub candidate : Candidate
  pub file : IsRecordFile held candidate
  pub empty : candidate.stored.manifest ≡ []
  pub stamp : q ≡ stamp_at (inside candidate.stored.sig.pn candidate.stored.sig.task)
  pub way : IsSome (held (codes "work")) ⊎ IsSome (held (work_at candidate.stored.sig.pn))

-- what the index knows of a candidate
abbrev pub row_of_candidate : Candidate → EquivRow
row_of_candidate c = record { name = c.name; pn = c.stored.sig.pn; task = c.stored.sig.task; sig = c.sig; manifest = c.stored.manifest; unihash = c.stored.unihash }

-- the rows of the candidates at these places
abbrev pub rows_at : List Candidate → List ℕ → List EquivRow
rows_at candidates places = map row_of_candidate (filter_map (slice_get candidates) places)

-- An opened store: what is held is what opening leaves alone, and what is under `stamp/`, which is as it was but for the stamps that are blocked; and
-- the rows are those of the believed records, by depth, then by name.
pub record IsOpened (before after : Store) (rows : List EquivRow) : Type 0 where
  pub candidates : List Candidate
  pub found : AreFound before candidates
  pub places : List ℕ
  pub believed : AreBelieved candidates places
  pub rows_are : rows ≡ rows_at candidates places
  pub left : (q : List ℕ) → IsLeft before q → after q ≡ before q
  pub only : (q : List ℕ) → IsSome (after q) → IsLeft before q ⊎ IsBelow (codes "stamp") q
  pub stamps : (q : List ℕ) → IsBelow (codes "stamp") q → (after q ≡ before q) ⊎ (IsBlocked before q × (after q ≡ None))
  pub blocked : (q : List ℕ) → IsBlocked before q → after q ≡ None

-- Opening made way: nothing is held at `obj`, nor, for a task that gave nothing by its record and has a stamp, at `work` or `work/PN`.
pub record HasWay (held : Store) : Type 0 where
  pub objects : held (codes "obj") ≡ None
  pub stamps : (c : Candidate) → IsRecordFile held c → c.stored.manifest ≡ [] → IsSome (held (stamp_at (inside c.stored.sig.pn c.stored.sig.task))) → (held (codes "work") ≡ None) × (held (work_at c.stored.sig.pn) ≡ None)

-- nothing is held under `tmp/`
abbrev pub HasNoLitter : Store → Type 0
HasNoLitter held = (q : List ℕ) → IsBelow (codes "tmp") q → held q ≡ None
