-- Which stamps a move renews, and how.
use Rattle.std.specs.Prelude.{◌≡◌, ◌⊎◌, ◌++◌, ◌∷◌, [], ℕ, List, Contains, Option, Some, find}
use Rattle.std.specs.Map.{lookup}
use Rattle.std.specs.Option.{option_map}
use Rattle.std.specs.Str.{bytes_eq}
use Rattle.tree_model.specs.declared.hash.Hash.{Hash}
use Rattle.tree_model.specs.Hash.{IsHash}
use Rattle.outside_traits.specs.Store.{Store, slashes}
use Rattle.stamp_store.specs.Stamp.{IsFolder, stamp_of, stamp_path}
use Rattle.store_opening.specs.Survey.{HeldFile}
use Rattle.record_move.specs.declared.records.MovedRecord.{MovedRecord}
use Rattle.store_model.specs.Rows.{hash_eq}

-- the name that stands for an old one, where a record with that was moved
abbrev pub renewed : List MovedRecord → Hash → Option Hash
renewed moved name = option_map (λ (m : MovedRecord). m.name) (find (λ (m : MovedRecord). hash_eq m.old_name name) moved)

-- The stamp of this folder, which is two parts of a path, says the name of a record that was moved, and is to say this name.
pub record IsRenewed (held : Store) (moved : List MovedRecord) (folder : List ℕ) (name : Hash) : Type 0 where
  pub is_folder : IsFolder folder
  pub two : slashes folder ≡ 1
  pub old : Hash
  pub is_hash : IsHash old
  pub file : held (stamp_path folder) ≡ Some (stamp_of old)
  pub renewed : renewed moved old ≡ Some name

-- just the folders whose stamps are to be renewed, and what each of these is to say
pub record AreRenewed (held : Store) (moved : List MovedRecord) (stamps : List (List ℕ × Hash)) : Type 0 where
  pub sound : (folder : List ℕ) (name : Hash) → Contains stamps (folder, name) → IsRenewed held moved folder name
  pub whole : (folder : List ℕ) (name : Hash) → IsRenewed held moved folder name → Contains stamps (folder, name)

-- ---- among files that were read

-- The file is a stamp of a folder of two parts that says an old name of these, and is to say this one.
pub record IsRenewedIn (names : List (List ℕ × Hash)) (f : HeldFile) (folder : List ℕ) (name : Hash) : Type 0 where
  pub at : f.0 ≡ stamp_path folder
  pub is_folder : IsFolder folder
  pub two : slashes folder ≡ 1
  pub old : Hash
  pub is_hash : IsHash old
  pub is : f.1 ≡ stamp_of old
  pub renewed : lookup (bytes_eq old.bytes) names ≡ Some name

-- one more of these, if the file is such a stamp
abbrev pub TakesRenewed : List (List ℕ × Hash) → HeldFile → List (List ℕ × Hash) → List (List ℕ × Hash) → Type 0
TakesRenewed names f old new =
    ((folder : List ℕ) × (name : Hash) × IsRenewedIn names f folder name × (new ≡ old ++ (folder, name) ∷ []))
    ⊎ (((folder : List ℕ) (name : Hash) → IsRenewedIn names f folder name → ⊥) × (new ≡ old))

-- just those of these files
pub record IsRenewedAt (names : List (List ℕ × Hash)) (files : List HeldFile) (stamps : List (List ℕ × Hash)) : Type 0 where
  pub sound : (folder : List ℕ) (name : Hash) → Contains stamps (folder, name) → (f : HeldFile) × Contains files f × IsRenewedIn names f folder name
  pub whole : (f : HeldFile) (folder : List ℕ) (name : Hash) → Contains files f → IsRenewedIn names f folder name → Contains stamps (folder, name)
