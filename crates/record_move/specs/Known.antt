-- Keys that are known, by their bytes.
use Rattle.std.specs.Prelude.{◌≡◌, ◌⊎◌, ◌++◌, ◌∷◌, [], ℕ, List, Option, Some, Contains, bytes_eq, find}
use Rattle.std.specs.List.{AllByRecursion}
use Rattle.sha2.specs.Sha256.{sha256}
use Rattle.tree_model.specs.declared.hash.Hash.{Hash}
use Rattle.meta_model.specs.declared.value.Key.{Key}
use Rattle.store_model.specs.Spelling.{key_bytes, key_name}
use Rattle.record_move.specs.declared.records.OldRecord.{OldRecord}
use Rattle.store_model.specs.Origins.{Book, Line}
use Rattle.store_model.specs.Valid.{StandsIn}

-- the known key of a name, which is its SHA-256
abbrev pub key_named : List (List ℕ) → Hash → Option (List ℕ)
key_named keys name = find (λ key. bytes_eq name.bytes (sha256 key)) keys

abbrev pub digest : List ℕ → Hash
digest bytes = record { bytes = sha256 bytes }

-- the key is known
abbrev pub IsKnown : List (List ℕ) → Key → Type 0
IsKnown keys key = key_named keys (key_name key) ≡ Some (key_bytes key)

-- the key of each line is known
abbrev pub AreKnown : List (List ℕ) → Book → Type 0
AreKnown keys book = (before : Book) (line : Line) → StandsIn book before line → IsKnown keys line.sig.key

-- More keys are known behind these, each that of an old record.
pub record KnowMore (old : List (List ℕ)) (olds : List OldRecord) (new : List (List ℕ)) : Type 0 where
  pub more : List (List ℕ)
  pub is : new ≡ old ++ more
  pub each : AllByRecursion (λ key. (c : OldRecord) × Contains olds c × (key ≡ key_bytes c.stored.sig.key)) more

-- each key stands under its SHA-256
abbrev pub AreNamed : List (List ℕ × List ℕ) → Type 0
AreNamed entries = AllByRecursion (λ e. e.0 ≡ sha256 e.1) entries

-- the same keys, or this one behind them
abbrev pub KnowsKey : List (List ℕ) → Key → List (List ℕ) → Type 0
KnowsKey old key new = (new ≡ old) ⊎ (new ≡ old ++ key_bytes key ∷ [])
