use Rattle.std.proofs.Common.{◌≡◌, ◌≤◌, ◌-◌, ◌||◌, List, ℕ, is_some, length, take, drop}
use Rattle.std.specs.BTreeMap.{get_by_text}
use Rattle.meta_model.specs.Text.{is_in}
use Rattle.load_model.specs.Facts.{fronts_of}
use Rattle.recipe_facts.specs.Fronts.{longer_fronts}
use Rattle.recipe_facts.proofs.names.put_fronts.Given as goal

-- the set so far, and the longer fronts
abbrev pub invariant-loop-end : goal.invariant-loop-end
invariant-loop-end l = record {
  within : l.end ≤ length l.name;
  fronts : (t : List ℕ) → (is_in t (longer_fronts (take l.end l.name) (drop l.end l.name)) || is_some (get_by_text l.set t)) ≡ (is_in t (fronts_of l.name) || is_some (get_by_text l.initial.set t));
}

abbrev pub decreases-loop-end : goal.decreases-loop-end
decreases-loop-end l = length l.name - l.end
