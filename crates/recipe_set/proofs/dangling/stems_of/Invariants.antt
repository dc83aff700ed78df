use Rattle.std.proofs.Common.{◌≡◌, List, ℕ, is_some, bytes_eq, take}
use Rattle.std.specs.BTreeMap.{get_by_text}
use Rattle.std.specs.List.{list_any}
use Rattle.recipe_set.specs.Stems.{recipe_stem}
use Rattle.recipe_set.proofs.dangling.stems_of.Given as goal

abbrev pub invariant-loop-path : goal.invariant-loop-path
invariant-loop-path l = (t : List ℕ) → is_some (get_by_text l.set t) ≡ list_any (λ path. bytes_eq t (recipe_stem path)) (take l.path-index l.paths)
