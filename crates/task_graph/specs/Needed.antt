-- The recipes that a recipe needs, by their numbers.
use Rattle.std.specs.Prelude.{◌≡◌, ℕ, Bool, false, not, List, [], length, Some, is_ok, slice_get, Result}
use Rattle.std.specs.List.{list_any, filter_map}
use Rattle.std.specs.Result.{result_ok}
use Rattle.meta_model.specs.declared.facts.FactSet.{FactSet}
use Rattle.meta_model.specs.declared.facts.RecipeFacts.{RecipeFacts}
use Rattle.meta_model.specs.Providers.{provider, runtime_provider}
use Rattle.meta_model.specs.Needs.{build_names, run_names}
use Rattle.task_graph.specs.declared.needed.Resolved.{Resolved}
use Rattle.task_graph.specs.declared.needed.Needed.{Needed}

-- the providers of names that have one
abbrev pub resolved : (List ℕ → Result ℕ (List (List ℕ))) → List (List ℕ) → List ℕ
resolved provide names = filter_map (λ name. result_ok (provide name)) names

-- a name has no provider
abbrev pub lacks_provider : (List ℕ → Result ℕ (List (List ℕ))) → List (List ℕ) → Bool
lacks_provider provide names = list_any (λ name. not (is_ok (provide name))) names

-- the providers of names, and whether a name has none
pub record IsResolved (provide : List ℕ → Result ℕ (List (List ℕ))) (names : List (List ℕ)) (made : Resolved) : Type 0 where
  pub found : made.found.items ≡ resolved provide names
  pub lacks : made.lacks ≡ lacks_provider provide names

-- the providers of the names that a recipe needs to be built, and of those that it needs at run time
pub record IsNeeded (facts : FactSet) (recipe : RecipeFacts) (needed : Needed) : Type 0 where
  pub building : IsResolved (provider facts) (build_names facts recipe) needed.building
  pub running : IsResolved (runtime_provider facts) (run_names recipe) needed.running

-- what each recipe needs, in the order of the recipes
pub record AreNeeded (facts : FactSet) (all : List Needed) : Type 0 where
  pub long : length all ≡ length facts.recipes
  pub each : (r : ℕ) (recipe : RecipeFacts) (needed : Needed) → slice_get facts.recipes r ≡ Some recipe → slice_get all r ≡ Some needed → IsNeeded facts recipe needed

-- nothing is resolved yet
abbrev pub IsResolvedNothing : Resolved → Type 0
IsResolvedNothing made = (made.found.items ≡ []) × (made.lacks ≡ false)
