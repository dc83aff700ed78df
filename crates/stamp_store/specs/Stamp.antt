-- Where the stamp of a task's folder stands, and what it says. (Own rules.)
use Rattle.std.specs.Prelude.{◌≡◌, ◌≢◌, ◌⊎◌, ◌≤◌, ℕ, Bool, false, List, [], ◌∷◌, ◌++◌, length, codes, Option, None, Some}
use Rattle.tree_model.specs.declared.entry.Entry.{Entry}
use Rattle.tree_model.specs.declared.entry.Entry.TheVariants.{File}
use Rattle.tree_model.specs.declared.hash.Hash.{Hash}
use Rattle.tree_model.specs.Hash.{IsHash, hash_text}
use Rattle.tree_model.specs.Path.{IsClean}
use Rattle.outside_traits.specs.Store.{Store}

-- The folder of a task: a clean path of at most 511 bytes. (Each of two parts has at most 255.)
pub record IsFolder (folder : List ℕ) : Type 0 where
  pub clean : IsClean folder
  pub short : length folder ≤ 511

-- where the stamp of a folder stands
abbrev pub stamp_path : List ℕ → List ℕ
stamp_path folder = codes "stamp/" ++ folder

-- where it is written first
abbrev pub staged_path : List ℕ → List ℕ
staged_path folder = codes "tmp/stamp/" ++ folder

-- where it goes as it is taken away
abbrev pub old_path : List ℕ → List ℕ
old_path folder = codes "tmp/old/" ++ folder

-- A stamp goes: its path holds what it held or nothing, and what it is renamed to may hold anything. All else stays.
pub record TakesAway (folder : List ℕ) (old new : Store) : Type 0 where
  pub others : (q : List ℕ) → q ≢ stamp_path folder → q ≢ old_path folder → new q ≡ old q
  pub source : (new (stamp_path folder) ≡ old (stamp_path folder)) ⊎ (new (stamp_path folder) ≡ None)

-- what stands in the stamp that names a record: the digits of the hash, and a newline
abbrev pub stamp_bytes : Hash → List ℕ
stamp_bytes name = hash_text name ++ 10 ∷ []

-- the stamp that names a record
abbrev pub stamp_of : Hash → Entry
stamp_of name = File false (stamp_bytes name)

-- the hash that the held file says; none where no file says one
abbrev pub IsCurrent : Option Entry → Option Hash → Type 0
IsCurrent held (Some name) = (exec : Bool) × (held ≡ Some (File exec (stamp_bytes name)))
IsCurrent held None = (name : Hash) (exec : Bool) → IsHash name → held ≡ Some (File exec (stamp_bytes name)) → ⊥
