-- Whole texts of signatures that meet in a digest. (Own rules.)
use Rattle.std.specs.Prelude.{◌≡◌, ◌≢◌, ◌⊎◌, ℕ, List}
use Rattle.sha2.specs.Sha256.{sha256}
use Rattle.tree_model.specs.declared.hash.Hash.{Hash}
use Rattle.store_model.specs.Spelling.{key_part, short_part}

-- Two whole texts of one name that differ are told apart by two byte strings of one digest: by their short texts, or, where these are the same, by
-- their keys.
pub record AreToldApart (one other : List ℕ) (at name : Hash) (held given : List ℕ) : Type 0 where
  pub parts : ((name ≡ at) × (held ≡ short_part one) × (given ≡ short_part other)) ⊎ ((short_part one ≡ short_part other) × (held ≡ key_part one) × (given ≡ key_part other))
  pub differ : held ≢ given
  pub held_name : sha256 held ≡ name.bytes
  pub given_name : sha256 given ≡ name.bytes

-- the keys of two whole texts are one, where their digests are
abbrev pub KeysAgree : List ℕ → List ℕ → Type 0
KeysAgree one other = sha256 (key_part one) ≡ sha256 (key_part other) → key_part one ≡ key_part other
