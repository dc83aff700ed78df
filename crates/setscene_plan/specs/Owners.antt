-- An index of the tasks by their names.
use Rattle.std.specs.Prelude.{◌≡◌, ℕ, Bool, true, List, Some, nat_eq}
use Rattle.std.specs.List.{slice_get}
use Rattle.std.specs.HashMap.{HashMap, get}
use Rattle.std.specs.declared.hash.FoldHasher.{FoldHasher}
use Rattle.std.specs.declared.hash.BuildHasherDefault.{BuildHasherDefault}
use Rattle.std.specs.Cmp.Lexicographic.{pointwise}
use Rattle.tree_model.specs.declared.hash.Hash.{Hash}

-- for the bytes of each name a task that has it
abbrev pub Owners : Type 0
Owners = HashMap (List ℕ) ℕ (BuildHasherDefault FoldHasher)

-- Where the names are known to differ, a task is the one that is found by its name.
abbrev pub IsOwned : Bool → Owners → List Hash → ℕ → Type 0
IsOwned distinct owners names t = distinct ≡ true → (name : Hash) → slice_get names t ≡ Some name → get (pointwise nat_eq) owners name.bytes ≡ Some t
