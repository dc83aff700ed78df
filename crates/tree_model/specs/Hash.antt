-- Digests and their texts.
use Rattle.std.specs.Prelude.{◌≡◌, ℕ, List, length}
use Rattle.hex.specs.Hex.{encode_lower, IsBytes}
use Rattle.tree_model.specs.declared.hash.Hash.{Hash}

-- The text of a digest: two lower-case hexadecimal digits for each of its bytes.
abbrev pub hash_text : Hash → List ℕ
hash_text hash = encode_lower hash.bytes

-- A digest that the program can hold has 32 bytes.
pub record IsHash (hash : Hash) : Type 0 where
  pub size : length hash.bytes ≡ 32
  pub bytes : IsBytes hash.bytes
