-- Where a store keeps its records and their keys. (Own rules.)
use Rattle.std.specs.Prelude.{ℕ, suc, List, [], ◌∷◌, ◌==◌, codes, if◌then◌else◌}
use Rattle.tree_model.specs.declared.hash.Hash.{Hash}
use Rattle.tree_model.specs.Hash.{hash_text}
use Rattle.tree_model.specs.Path.{inside}

-- where a stored record stands: `rec2/NAME`
abbrev pub record_path : Hash → List ℕ
record_path name = inside (codes "rec2") (hash_text name)

-- where a key stands: `key/DIGEST`
abbrev pub key_path : Hash → List ℕ
key_path digest = inside (codes "key") (hash_text digest)
