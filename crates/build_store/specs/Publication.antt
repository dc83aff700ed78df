-- What a publication, or a restoring, does to a store.
use Rattle.std.specs.Prelude.{◌≡◌, ◌≢◌, ◌⊎◌, ◌≤◌, ℕ, true, false, List, [], ◌∷◌, ◌++◌, codes, length, All, Option, Some, None, is_none, if◌then◌else◌}
use Rattle.tree_model.specs.declared.hash.Hash.{Hash}
use Rattle.tree_model.specs.Manifest.{manifest_lines}
use Rattle.tree_model.specs.Path.{IsAtOrBelow, IsBelow, inside}
use Rattle.tree_model.specs.Tree.{IsTree, entry_at}
use Rattle.outside_traits.specs.Store.{HoldsTree, IsApart, Store}
use Rattle.meta_model.specs.CleanBuild.{Entries}
use Rattle.store_model.specs.declared.signature.EquivRow.{EquivRow}
use Rattle.store_model.specs.declared.signature.SigRecord.{SigRecord}
use Rattle.store_model.specs.declared.signature.StoredSig.{StoredSig}
use Rattle.store_model.specs.Available.{IsStored, object_folder, task_folder}
use Rattle.store_model.specs.Origins.{Line, row_of}
use Rattle.store_model.specs.Recording.{recorded}
use Rattle.store_model.specs.Rows.{row_at, unihash_or}
use Rattle.store_model.specs.Signatures.{Signed}
use Rattle.store_model.specs.Spelling.{key_name, name_of, signature_bytes}
use Rattle.store_model.specs.Valid.{key_file, stored_of}
use Rattle.store_model.specs.Paths.{key_path, record_path}
use Rattle.store_model.specs.Publication.{record_file, work_at, stamp_at, stamp_file, Publication}
use Rattle.build_store.specs.Keys.{is_new_key}

-- what is put once its key is known
abbrev pub settled : Publication → Publication
settled p = record p { writes_key = false }

-- The path is none of the publication's own: it is not under `tmp/`, it is apart from the work folder, from the folder of an object that is
-- written and from the stamp's path, and it is neither a record that is written nor such a key.
pub record IsForeign (p : Publication) (q : List ℕ) : Type 0 where
  pub temporary : IsBelow (codes "tmp") q → ⊥
  pub work : IsApart (work_at p.folder) q
  pub stamp : IsApart (stamp_at p.folder) q
  pub stored : p.is_new ≡ true → q ≢ record_path p.name
  pub key : p.writes_key ≡ true → q ≢ key_path p.key
  pub shared : (unihash : Hash) → p.object ≡ Some unihash → IsApart (object_folder unihash) q

-- All that the stamp tells of is there: it names the stored record, whose key is held, and the folders hold exactly the tree.
pub record IsPublished (p : Publication) (image : Store) : Type 0 where
  pub stamp : image (stamp_at p.folder) ≡ Some (stamp_file p.name)
  pub stored : image (record_path p.name) ≡ Some p.file
  pub key : image (key_path p.key) ≡ Some p.key_file
  pub work : HoldsTree (work_at p.folder) p.tree image
  pub shared : (unihash : Hash) → p.object ≡ Some unihash → HoldsTree (object_folder unihash) p.tree image

-- the stamp, and all that is at or under `work`, are as before
pub record IsUntouched (folder : List ℕ) (old new : Store) : Type 0 where
  pub stamp : new (stamp_at folder) ≡ old (stamp_at folder)
  pub work : (q : List ℕ) → IsAtOrBelow (codes "work") q → new q ≡ old q

-- What a publication makes of a store at each moment, as a relation of what was and what is: other paths stay; the record stays, or it
-- is the new one, and its key is held; and the stamp doesn't lie: nothing of the task was touched, or no stamp is held, or all that it tells of is there.
pub record Publishes (p : Publication) (old new : Store) : Type 0 where
  pub others : (q : List ℕ) → IsForeign p q → new q ≡ old q
  pub stored : (new (record_path p.name) ≡ old (record_path p.name))
      ⊎ ((p.is_new ≡ true) × (new (record_path p.name) ≡ Some p.file) × (new (key_path p.key) ≡ Some p.key_file))
  pub honest : IsUntouched p.folder old new ⊎ ((new (stamp_at p.folder) ≡ None) ⊎ IsPublished p new)

-- What a publication, or a restoring, of a folder makes of what others have: all under `stamp` stays that is apart from its own stamp, and all under
-- `work` and `obj` that is apart from its own folders; and above these, above or below the stamp, and at `stamp` itself, nothing changes where this
-- store holds nothing.
pub record KeepsOthers (folder : List ℕ) (object : Option Hash) (held old new : Store) : Type 0 where
  pub stamps : (other : List ℕ) → IsApart folder other ⊎ ((other ≢ folder) × (held (stamp_at other) ≡ None)) → new (stamp_at other) ≡ old (stamp_at other)
  pub top : held (codes "stamp") ≡ None → new (codes "stamp") ≡ old (codes "stamp")
  pub work : (q : List ℕ) → IsAtOrBelow (codes "work") q → IsApart (work_at folder) q → new q ≡ old q
  pub objects : (q : List ℕ) → IsAtOrBelow (codes "obj") q → ((unihash : Hash) → object ≡ Some unihash → IsApart (object_folder unihash) q) → new q ≡ old q
  pub above_work : (q : List ℕ) → IsBelow q (work_at folder) → held q ≡ None → new q ≡ old q
  pub above_object : (unihash : Hash) → object ≡ Some unihash → (q : List ℕ) → IsBelow q (object_folder unihash) → held q ≡ None → new q ≡ old q

-- Each path in the work folder, and in the folder of the object, if there is one, at which this store holds what the tree has there stays:
-- what is held already isn't written again, and what isn't held isn't removed.
pub record KeepsRight (folder : List ℕ) (object : Option Hash) (tree : Entries) (held old new : Store) : Type 0 where
  pub work : (path : List ℕ) → held (inside (work_at folder) path) ≡ entry_at tree path → new (inside (work_at folder) path) ≡ old (inside (work_at folder) path)
  pub shared : (unihash : Hash) → object ≡ Some unihash → (path : List ℕ) → held (inside (object_folder unihash) path) ≡ entry_at tree path → new (inside (object_folder unihash) path) ≡ old (inside (object_folder unihash) path)

-- Each path in the work folder at which this store holds what the object has there stays.
pub record KeepsCopied (folder : List ℕ) (unihash : Hash) (held old new : Store) : Type 0 where
  pub work : (path : List ℕ) → held (inside (work_at folder) path) ≡ held (inside (object_folder unihash) path) → new (inside (work_at folder) path) ≡ old (inside (work_at folder) path)

-- ---- a task that has run

-- The unihash of a task's output: that of its record, where it is stored; else that of the first row with its PN, task and manifest;
-- else its own name.
abbrev pub unihash_for : List EquivRow → Signed → Entries → Hash
unihash_for rows s tree = unihash_or (recorded rows s tree).unihash (row_at rows (name_of s.sig))

abbrev pub line_for : List EquivRow → Signed → Entries → Line
line_for rows s tree = record { sig = s.sig; files = s.task.files; manifest = manifest_lines tree; unihash = unihash_for rows s tree }

abbrev pub object_for : List EquivRow → Signed → Entries → Option Hash
object_for rows s tree = if s.task.sstate then Some (unihash_for rows s tree) else None

-- what is put for a task that gave a tree, whose key is known
abbrev pub publication : List EquivRow → Signed → Entries → Publication
publication rows s tree = record {
  folder = task_folder s.task;
  name = name_of s.sig;
  file = record_file (stored_of (line_for rows s tree));
  is_new = is_none (row_at rows (name_of s.sig));
  tree = tree;
  object = object_for rows s tree;
  key = key_name s.sig.key;
  key_file = key_file s.sig.key;
  writes_key = false;
}

-- ... and as its publication is opened: its key too, where that isn't known
abbrev pub first_publication : List (List ℕ) → List EquivRow → Signed → Entries → Publication
first_publication keys rows s tree = record (publication rows s tree) { writes_key = is_new_key keys s.sig }

-- The rows behind a publication: one more, for a name that had none.
abbrev pub rows_with : List EquivRow → Signed → Entries → List EquivRow
rows_with rows s tree = if is_none (row_at rows (name_of s.sig)) then rows ++ row_of (line_for rows s tree) ∷ [] else rows

-- no path of the tree has more than 3,072 bytes (own rule)
abbrev pub AreShort : Entries → Type 0
AreShort tree = All (λ e. length e.0 ≤ 3072) tree

-- where the task's record is stored, it has this signature and this manifest
abbrev pub IsAgreed : List EquivRow → Signed → Entries → Type 0
IsAgreed rows s tree = (row : EquivRow) → row_at rows (name_of s.sig) ≡ Some row → (row.sig ≡ signature_bytes s.sig) × (row.manifest ≡ manifest_lines tree)

-- ---- a task that is restored

-- the task's record is stored, and this tree, which has its manifest, is its object
pub record IsObjectOf (held : Store) (rows : List EquivRow) (s : Signed) (row : EquivRow) (tree : Entries) : Type 0 where
  pub stored : IsStored rows s row
  pub is_tree : IsTree tree
  pub holds : HoldsTree (object_folder row.unihash) tree held
  pub manifest : row.manifest ≡ manifest_lines tree

-- the record of a row with this signature
abbrev pub stored_for : SigRecord → EquivRow → StoredSig
stored_for sig row = record { sig = sig; manifest = row.manifest; unihash = row.unihash }

-- what is put for a task whose object is restored
abbrev pub restoration : Signed → EquivRow → Entries → Publication
restoration s row tree = record {
  folder = task_folder s.task;
  name = name_of s.sig;
  file = record_file (stored_for s.sig row);
  is_new = false;
  tree = tree;
  object = None;
  key = key_name s.sig.key;
  key_file = key_file s.sig.key;
  writes_key = false;
}

-- an object of the task, and what restoring it makes of a store
pub record RestoresObject (held : Store) (rows : List EquivRow) (s : Signed) (old new : Store) : Type 0 where
  pub row : EquivRow
  pub tree : Entries
  pub object : IsObjectOf held rows s row tree
  pub publishes : Publishes (restoration s row tree) old new

-- What restoring makes of a store at each moment: nothing changes, or the task's object is put.
abbrev pub Restores : Store → List EquivRow → Signed → Store → Store → Type 0
Restores held rows s old new = (new ≡ old) ⊎ RestoresObject held rows s old new

-- all that the stamp tells of a restored task is there
pub record IsRestored (held : Store) (rows : List EquivRow) (s : Signed) (image : Store) : Type 0 where
  pub row : EquivRow
  pub tree : Entries
  pub object : IsObjectOf held rows s row tree
  pub published : IsPublished (restoration s row tree) image

-- the task has no object: its record isn't stored, or what is held under the object's folder doesn't match
abbrev pub HasNoObject : Store → List EquivRow → Signed → Type 0
HasNoObject held rows s = (row : EquivRow) (tree : Entries) → IsObjectOf held rows s row tree → ⊥
