-- What a store keeps of a task: its record and its stamp as files, and the tree of its output. (Own rules.)
use Rattle.std.specs.Prelude.{ℕ, Bool, false, List, [], ◌∷◌, ◌++◌, codes, Option}
use Rattle.tree_model.specs.declared.entry.Entry.{Entry}
use Rattle.tree_model.specs.declared.entry.Entry.TheVariants.{File}
use Rattle.tree_model.specs.declared.hash.Hash.{Hash}
use Rattle.tree_model.specs.Hash.{hash_text}
use Rattle.tree_model.specs.Path.{inside}
use Rattle.meta_model.specs.CleanBuild.{Entries}
use Rattle.store_model.specs.declared.signature.ShortStored.{ShortStored}
use Rattle.store_model.specs.declared.signature.StoredSig.{StoredSig}
use Rattle.store_model.specs.Spelling.{record_bytes, short_record}

-- the file of a stored record
abbrev pub record_file : StoredSig → Entry
record_file stored = File false (record_bytes stored)

-- ... whatever its key
abbrev pub short_file : ShortStored → Entry
short_file stored = File false (short_record stored)

-- What is put of a task: its folder `PN/TASK`, the name and the file of its record, whether that is written (its name has no row), the tree, the unihash of
-- the object that is written too, if one is, the name and the file of its key, and whether that is written.
pub record Publication : Type 0 where
  pub folder : List ℕ
  pub name : Hash
  pub file : Entry
  pub is_new : Bool
  pub tree : Entries
  pub object : Option Hash
  pub key : Hash
  pub key_file : Entry
  pub writes_key : Bool

abbrev pub work_at : List ℕ → List ℕ
work_at folder = inside (codes "work") folder

abbrev pub stamp_at : List ℕ → List ℕ
stamp_at folder = inside (codes "stamp") folder

-- the digits of a name, and a newline
abbrev pub stamp_text : Hash → List ℕ
stamp_text name = hash_text name ++ 10 ∷ []

-- the stamp that names a record
abbrev pub stamp_file : Hash → Entry
stamp_file name = File false (stamp_text name)
