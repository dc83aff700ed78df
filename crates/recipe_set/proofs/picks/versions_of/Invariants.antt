use Rattle.std.proofs.Common.{◌≡◌, List, ℕ, bytes_eq, take}
use Rattle.std.specs.Map.{lookup}
use Rattle.std.specs.BTreeMap.{get_by_text}
use Rattle.recipe_set.proofs.picks.versions_of.Given as goal

abbrev pub invariant-loop-pair : goal.invariant-loop-pair
invariant-loop-pair l = (t : List ℕ) → get_by_text l.map t ≡ lookup (bytes_eq t) (take l.pair-index l.versions)
