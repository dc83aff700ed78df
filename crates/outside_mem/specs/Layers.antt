-- What is told of layers in memory.
use Rattle.std.specs.Prelude.{◌≡◌, ℕ, List, Option, None, Some, IsSome, String, option_map, find, if◌then◌else◌}
use Rattle.std.specs.declared.alloc.Global.{Global}
use Rattle.std.specs.Option.{option_or}
use Rattle.std.specs.Str.{bytes_eq}
use Rattle.std.specs.BTreeMap.{BTreeMap}
use Rattle.tree_model.specs.Path.{IsClean}

-- the bytes of files by path
abbrev pub FileMap : Type 0
FileMap = BTreeMap (String Global) (List ℕ)

-- the bytes of the first file of the list at a path
abbrev pub bytes_at : List (List ℕ × List ℕ) → List ℕ → Option (List ℕ)
bytes_at files path = option_map (λ f. f.1) (find (λ f. bytes_eq f.0 path) files)

-- What layers made from a list hold: at a clean path the first file of the list with that path, and nothing at any
-- other path. (Own rule.)
pub record AreFrom (given : List (List ℕ × List ℕ)) (held : List ℕ → Option (List ℕ)) : Type 0 where
  pub first : (path : List ℕ) → IsClean path → held path ≡ bytes_at given path
  pub clean : (path : List ℕ) → IsSome (held path) → IsClean path

-- one file more, where no file stands at its path yet
abbrev pub with_file : List ℕ → List ℕ → (List ℕ → Option (List ℕ)) → List ℕ → Option (List ℕ)
with_file path bytes held = λ q. option_or (held q) (if bytes_eq path q then Some bytes else None)
