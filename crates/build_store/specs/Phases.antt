-- The phases of a publication.
use Rattle.std.specs.Prelude.{◌≡◌, ◌≢◌, ◌⊎◌, ℕ, false, List, codes, Option, Some, None, IsSome}
use Rattle.std.specs.Option.{is_some}
use Rattle.tree_model.specs.declared.entry.Entry.{Entry}
use Rattle.tree_model.specs.declared.hash.Hash.{Hash}
use Rattle.tree_model.specs.Path.{IsBelow}
use Rattle.outside_traits.specs.Store.{IsApart, Store}
use Rattle.meta_model.specs.CleanBuild.{Entries}
use Rattle.store_model.specs.Available.{object_folder}
use Rattle.stamp_store.specs.Stamp.{staged_path}
use Rattle.store_opening.specs.Paths.{IsLaidOut, staged_record_path}
use Rattle.store_model.specs.Paths.{record_path}
use Rattle.store_model.specs.Publication.{work_at, Publication}
use Rattle.build_store.specs.Keys.{HoldsKeyOf, text_key, text_key_file}

-- the path is apart from the folder of the object, if there is one
abbrev pub IsApartFrom : Option Hash → List ℕ → Type 0
IsApartFrom object q = (unihash : Hash) → object ≡ Some unihash → IsApart (object_folder unihash) q

-- the work folder changes, and that of the object, if there is one
pub record Lays (folder : List ℕ) (object : Option Hash) (old new : Store) : Type 0 where
  pub others : (q : List ℕ) → IsApart (work_at folder) q → IsApartFrom object q → new q ≡ old q

-- Temporary files come and go; and a new record comes to stand under its name.
pub record Stages (name : Hash) (file : Option Entry) (old new : Store) : Type 0 where
  pub others : (q : List ℕ) → (IsBelow (codes "tmp") q → ⊥) → (IsSome file → q ≢ record_path name) → new q ≡ old q
  pub stored : (new (record_path name) ≡ old (record_path name)) ⊎ ((e : Entry) × (file ≡ Some e) × (new (record_path name) ≡ Some e))
  pub laid_out : IsLaidOut old → IsLaidOut new

-- Nothing else is written than the record's file, if it is new, and the stamp, where they are staged.
pub record AddsStaged (folder : List ℕ) (name : Hash) (file : Option Entry) (old new : Store) : Type 0 where
  pub others : (q : List ℕ) → q ≢ staged_path folder → (IsSome file → q ≢ staged_record_path name) → new q ≡ old q

-- the same, without the stamp
pub record AddsStagedFile (name : Hash) (file : Option Entry) (old new : Store) : Type 0 where
  pub others : (q : List ℕ) → (IsSome file → q ≢ staged_record_path name) → new q ≡ old q

-- the record's file is staged, if it is new
abbrev pub IsStagedFile : Hash → Option Entry → Store → Type 0
IsStagedFile name file held = (e : Entry) → file ≡ Some e → held (staged_record_path name) ≡ Some e

-- What is put, for a signature with this whole text, whose key is known: a record's file is written just where there is one.
abbrev pub put_of : List ℕ → Hash → Entries → Option Hash → Option Entry → Entry → List ℕ → Publication
put_of folder name tree object file f text = record {
  folder = folder;
  name = name;
  file = f;
  is_new = is_some file;
  tree = tree;
  object = object;
  key = text_key text;
  key_file = text_key_file text;
  writes_key = false;
}

-- This is the record's file: the one that is written, or else what stands there; and the key is held.
pub record IsFileOf (name : Hash) (file : Option Entry) (text : List ℕ) (held : Store) (f : Entry) : Type 0 where
  pub new : (e : Entry) → file ≡ Some e → e ≡ f
  pub old : file ≡ None → held (record_path name) ≡ Some f
  pub key : HoldsKeyOf text held
