use Rattle.std.proofs.Common.{◌≡◌, ℕ, List, ◌||◌, take, is_some}
use Rattle.std.specs.BTreeMap.{get_by_text}
use Rattle.meta_model.specs.Text.{is_in}
use Rattle.value_maps.proofs.names.put_all.Given as goal

abbrev pub invariant-loop-name : goal.invariant-loop-name
invariant-loop-name l = (t : List ℕ) → is_some (get_by_text l.set t) ≡ (is_in t (take l.name-index l.names) || is_some (get_by_text l.fn.set t))
