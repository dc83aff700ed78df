use Rattle.std.proofs.Common.{◌≡◌, List, ℕ, is_some, take, flat_map}
use Rattle.std.specs.BTreeMap.{get_by_text}
use Rattle.meta_model.specs.Text.{is_in}
use Rattle.load_model.specs.Facts.{fronts_of}
use Rattle.recipe_facts.proofs.names.fronts_of_all.Given as goal

abbrev pub invariant-loop-name : goal.invariant-loop-name
invariant-loop-name l = (t : List ℕ) → is_some (get_by_text l.set t) ≡ is_in t (flat_map fronts_of (take l.name-index l.names))
