-- Digests whose texts are parts of paths.
use Rattle.std.specs.Prelude.{◌≡◌, ◌<◌, length}
use Rattle.std.specs.List.{AllByRecursion}
use Rattle.tree_model.specs.declared.hash.Hash.{Hash}

-- 32 bytes
pub record IsName (name : Hash) : Type 0 where
  pub size : length name.bytes ≡ 32
  pub bytes : AllByRecursion (λ b. b < 256) name.bytes
