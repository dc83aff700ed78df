-- The recipe that a name of DEPENDS or RDEPENDS stands for, over what all recipes say.
use Rattle.std.specs.Prelude.{ℕ, ◌+◌, Bool, false, ◌||◌, ◌&&◌, List, [], ◌∷◌, map, filter, Result, Ok, Err, nat_eq, bytes_eq, if◌then◌else◌}
use Rattle.std.specs.List.{list_any}
use Rattle.std.specs.Map.{lookup}
use Rattle.std.specs.Option.{option_map_or}
use Rattle.meta_model.specs.declared.facts.FactSet.{FactSet}
use Rattle.meta_model.specs.declared.facts.RecipeFacts.{RecipeFacts}
use Rattle.meta_model.specs.declared.facts.Package.{Package}
use Rattle.meta_model.specs.Text.{is_in, in_byte_order}

-- A recipe is found by its number among the facts, from 0. These are the numbers, from k on, of those that pass a test.
abbrev pub numbers_from : (RecipeFacts → Bool) → ℕ → List RecipeFacts → List ℕ
numbers_from test k [] = []
numbers_from test k (recipe ∷ recipes) = if test recipe then k ∷ numbers_from test (k + 1) recipes else numbers_from test (k + 1) recipes

abbrev pub is_named : List ℕ → RecipeFacts → Bool
is_named name recipe = bytes_eq recipe.pn name

-- A recipe is a candidate for its PN and for each word of its PROVIDES (BitBake User Manual, "Execution", section
-- "Providers").
abbrev pub is_candidate : List ℕ → RecipeFacts → Bool
is_candidate name recipe = is_named name recipe || is_in name recipe.provides

-- PREFERRED_PROVIDER_name picks the candidate whose PN it is; one that names no candidate has no effect (the same section;
-- the second half is an own rule).
abbrev pub is_preferred : FactSet → List ℕ → RecipeFacts → Bool
is_preferred facts name recipe = is_candidate name recipe && option_map_or (λ pn. bytes_eq recipe.pn pn) (lookup (bytes_eq name) facts.preferred) false

abbrev pub is_package_for : List ℕ → Package → Bool
is_package_for name p = bytes_eq p.name name || is_in name p.rprovides

-- At run time a recipe is a candidate for its PN, for its packages, and for what these provide at run time.
abbrev pub is_runtime_candidate : List ℕ → RecipeFacts → Bool
is_runtime_candidate name recipe = is_named name recipe || list_any (is_package_for name) recipe.packages

-- the narrower test, where any recipe passes it
abbrev pub narrowed : List RecipeFacts → (RecipeFacts → Bool) → (RecipeFacts → Bool) → (RecipeFacts → Bool)
narrowed recipes narrower wider = if list_any narrower recipes then narrower else wider

-- The number of the only recipe that passes the test. Where there is none or are several, the refusal has the PNs of those
-- that pass, in byte order and each once: without any, nothing provides the name.
abbrev pub the_only : List ℕ → List (List ℕ) → Result ℕ (List (List ℕ))
the_only [] pns = Err []
the_only (n ∷ []) pns = Ok n
the_only (n ∷ (m ∷ others)) pns = Err pns

abbrev pub only_one : List RecipeFacts → (RecipeFacts → Bool) → Result ℕ (List (List ℕ))
only_one recipes test = the_only (numbers_from test 0 recipes) (in_byte_order (map (λ recipe. recipe.pn) (filter test recipes)))

-- The provider of a name: the candidate that a preference picks; else the one of that very name; else the only one. Where
-- none of these decides, the name is refused (own rule: no order that nobody wrote chooses among several).
abbrev pub provider : FactSet → List ℕ → Result ℕ (List (List ℕ))
provider facts name = only_one facts.recipes (narrowed facts.recipes (is_preferred facts name) (narrowed facts.recipes (is_named name) (is_candidate name)))

-- The runtime provider of a name: the candidate of that very name, else the only one. No preference counts (own rule).
abbrev pub runtime_provider : FactSet → List ℕ → Result ℕ (List (List ℕ))
runtime_provider facts name = only_one facts.recipes (narrowed facts.recipes (is_named name) (is_runtime_candidate name))

-- the answer is this recipe
abbrev pub is_found : ℕ → Result ℕ (List (List ℕ)) → Bool
is_found n (Ok m) = nat_eq n m
is_found n (Err pns) = false
