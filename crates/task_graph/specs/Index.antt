-- What the index of names has.
use Rattle.std.specs.Prelude.{◌≡◌, ℕ, Bool, false, List, Option, bytes_eq}
use Rattle.std.specs.HashMap.{get_by_text}
use Rattle.std.specs.HashSet.{contains_text}
use Rattle.std.specs.Map.{lookup}
use Rattle.std.specs.Option.{option_map_or}
use Rattle.meta_model.specs.declared.facts.FactSet.{FactSet}
use Rattle.meta_model.specs.Text.{is_in}
use Rattle.meta_model.specs.Providers.{numbers_from, is_named, is_candidate, is_runtime_candidate, is_preferred}
use Rattle.task_graph.specs.declared.index.NameIndex.{NameIndex}
use Rattle.task_graph.specs.Only.{only_of, first_place}

-- each name has the place of its first preference
abbrev pub HasPreferences : FactSet → (List ℕ → Option ℕ) → Type 0
HasPreferences facts find = (q : List ℕ) → find q ≡ first_place (λ p. bytes_eq p.0 q) 0 facts.preferred

-- the recipe of this PN is preferred for the name
abbrev pub wants : FactSet → List ℕ → List ℕ → Bool
wants facts name pn = option_map_or (λ wanted. bytes_eq pn wanted) (lookup (bytes_eq name) facts.preferred) false

-- Each name has what is kept of the numbers of the recipes that pass its test, and of those that a preference picks; and the
-- names of ASSUME_PROVIDED are known.
pub record IsIndex (facts : FactSet) (index : NameIndex) : Type 0 where
  pub named : (q : List ℕ) → get_by_text index.named q ≡ only_of (numbers_from (is_named q) 0 facts.recipes)
  pub building : (q : List ℕ) → get_by_text index.building q ≡ only_of (numbers_from (is_candidate q) 0 facts.recipes)
  pub running : (q : List ℕ) → get_by_text index.running q ≡ only_of (numbers_from (is_runtime_candidate q) 0 facts.recipes)
  pub preferred : (q : List ℕ) → get_by_text index.preferred q ≡ only_of (numbers_from (is_preferred facts q) 0 facts.recipes)
  pub assumed : (q : List ℕ) → contains_text index.assumed q ≡ is_in q facts.assumed
