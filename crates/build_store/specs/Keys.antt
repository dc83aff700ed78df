-- Keys of signatures: where they are held, and which are known.
use Rattle.std.specs.Prelude.{◌≡◌, ◌≢◌, ℕ, Bool, true, false, is_none, if◌then◌else◌, List, [], ◌∷◌, ◌++◌, Some, Contains, slice_get}
use Rattle.std.specs.List.{AllByRecursion}
use Rattle.sha2.specs.Sha256.{sha256}
use Rattle.tree_model.specs.declared.entry.Entry.{Entry}
use Rattle.tree_model.specs.declared.entry.Entry.TheVariants.{File}
use Rattle.tree_model.specs.declared.hash.Hash.{Hash}
use Rattle.outside_traits.specs.Store.{Store}
use Rattle.store_model.specs.declared.signature.EquivRow.{EquivRow}
use Rattle.store_model.specs.declared.signature.SigRecord.{SigRecord}
use Rattle.store_model.specs.Paths.{key_path}
use Rattle.store_model.specs.Spelling.{key_bytes, key_name, key_part}
use Rattle.record_move.specs.Known.{key_named}
use Rattle.build_store.specs.View.{OpenView, OpenViews, opened_at}

-- the name of the key of each signature with this whole text
abbrev pub text_key : List ℕ → Hash
text_key text = record { bytes = sha256 (key_part text) }

-- ... and its file
abbrev pub text_key_file : List ℕ → Entry
text_key_file text = File false (key_part text)

-- it is held, under its name
abbrev pub HoldsKeyOf : List ℕ → Store → Type 0
HoldsKeyOf text held = held (key_path (text_key text)) ≡ Some (text_key_file text)

-- it is known
abbrev pub KnowsKeyOf : List (List ℕ) → List ℕ → Type 0
KnowsKeyOf keys text = key_named keys (text_key text) ≡ Some (key_part text)

-- the key of each row is known
abbrev pub KnowsRows : List (List ℕ) → List EquivRow → Type 0
KnowsRows keys rows = AllByRecursion (λ row. KnowsKeyOf keys row.sig) rows

-- each known key is held, under its name
abbrev pub HoldsKeys : List (List ℕ) → Store → Type 0
HoldsKeys keys held = (name : Hash) (key : List ℕ) → key_named keys name ≡ Some key → held (key_path name) ≡ Some (File false key)

-- No key is known that has the name of this signature's.
abbrev pub is_new_key : List (List ℕ) → SigRecord → Bool
is_new_key keys sig = is_none (key_named keys (key_name sig.key))

-- the keys with that of the signature, where it wasn't known
abbrev pub keys_with : List (List ℕ) → SigRecord → List (List ℕ)
keys_with keys sig = if is_new_key keys sig then keys ++ key_bytes sig.key ∷ [] else keys

-- A known key that has the name of the signature's is the signature's.
abbrev pub HasNoOtherKey : List (List ℕ) → SigRecord → Type 0
HasNoOtherKey keys sig = (key : List ℕ) → key_named keys (key_name sig.key) ≡ Some key → key ≡ key_bytes sig.key

-- the keys with that of a signature with this whole text, where none of its name was known
abbrev pub keys_behind : List (List ℕ) → List ℕ → List (List ℕ)
keys_behind keys text = if is_none (key_named keys (text_key text)) then keys ++ key_part text ∷ [] else keys

-- each known key is that of a row
abbrev pub AreOfRows : List EquivRow → List (List ℕ) → Type 0
AreOfRows rows keys = AllByRecursion (λ key. (row : EquivRow) × Contains rows row × (key ≡ key_part row.sig)) keys

-- the key of the row at the place is known, and no more than before
pub record KnowsRowAt (rows : List EquivRow) (place : ℕ) (old new : List (List ℕ)) : Type 0 where
  pub row : EquivRow
  pub is_row : slice_get rows place ≡ Some row
  pub knows : KnowsKeyOf new row.sig
  pub is : new ≡ keys_behind old row.sig

-- A key is put: at its path something changes, where none of its name was known, and nowhere else.
pub record PutsKey (keys : List (List ℕ)) (text : List ℕ) (old new : Store) : Type 0 where
  pub others : (q : List ℕ) → (is_none (key_named keys (text_key text)) ≡ true → q ≢ key_path (text_key text)) → new q ≡ old q

-- No row, and nothing that is open, has a key of the name of the signature's.
pub record HasNewKey (index : List EquivRow) (opened : OpenViews) (sig : SigRecord) : Type 0 where
  pub rows : AllByRecursion (λ (row : EquivRow). text_key row.sig ≢ key_name sig.key) index
  pub opens : (folder : List ℕ) (one : OpenView) → opened_at opened folder ≡ Some one → text_key one.sig ≢ key_name sig.key
