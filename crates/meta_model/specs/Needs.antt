-- Which task needs which: the five kinds of edges of the task graph, as a relation on tasks.
use Rattle.std.specs.Prelude.{◌≡◌, ℕ, Bool, false, not, ◌||◌, ◌&&◌, List, filter, find, Option, IsTrue, is_some, nat_eq, bytes_eq, slice_get}
use Rattle.std.specs.List.{list_any, flat_map}
use Rattle.std.specs.Option.{option_map_or, option_and_then}
use Rattle.meta_model.specs.declared.facts.FactSet.{FactSet}
use Rattle.meta_model.specs.declared.facts.RecipeFacts.{RecipeFacts}
use Rattle.meta_model.specs.declared.facts.TaskFacts.{TaskFacts}
use Rattle.meta_model.specs.Text.{is_in}
use Rattle.meta_model.specs.Providers.{provider, runtime_provider, is_found}
use Rattle.meta_model.specs.Walks.{LeadsTo}

-- A task: the number of its recipe among the facts, and its name.
abbrev pub Task : Type 0
Task = ℕ × List ℕ

-- what a recipe says of its task of this name; the first counts
abbrev pub task_of : List ℕ → RecipeFacts → Option TaskFacts
task_of name recipe = find (λ t. bytes_eq t.task name) recipe.tasks

-- The recipe has a task of this name. Whatever leads to one that isn't there leads nowhere (own rule), but for a word of
-- `[depends]`.
abbrev pub is_task : FactSet → Task → Bool
is_task facts a = is_some (option_and_then (task_of a.1) (slice_get facts.recipes a.0))

-- a test of a task's recipe and of what the recipe says of the task
abbrev pub tested : FactSet → Task → (RecipeFacts → TaskFacts → Bool) → Bool
tested facts a test = option_map_or (λ recipe. option_map_or (test recipe) (task_of a.1 recipe) false) (slice_get facts.recipes a.0) false

-- The names that a recipe needs to be built: the words of DEPENDS. Those of ASSUME_PROVIDED are dropped here, and from
-- nothing else (own rule).
abbrev pub build_names : FactSet → RecipeFacts → List (List ℕ)
build_names facts recipe = filter (λ name. not (is_in name facts.assumed)) recipe.depends

-- The names that a recipe needs at run time: those of its packages.
abbrev pub run_names : RecipeFacts → List (List ℕ)
run_names recipe = flat_map (λ p. p.rdepends) recipe.packages

-- a name of the recipe has this provider
abbrev pub builds_with : FactSet → ℕ → RecipeFacts → Bool
builds_with facts n recipe = list_any (λ name. is_found n (provider facts name)) (build_names facts recipe)

-- ... at run time
abbrev pub runs_with : FactSet → ℕ → RecipeFacts → Bool
runs_with facts n recipe = list_any (λ name. is_found n (runtime_provider facts name)) (run_names recipe)

-- `addtask`: a task needs those of its recipe that it comes after (BitBake User Manual, "Dependencies", section
-- "Dependencies Internal to the .bb File").
abbrev pub needs_by_order : FactSet → Task → Task → Bool
needs_by_order facts a b = tested facts a (λ recipe t. nat_eq a.0 b.0 && is_in b.1 t.after)

-- `[depends]`: a word NAME:TASK is that task of the provider of NAME (section "Inter-Task Dependencies").
abbrev pub needs_by_depends : FactSet → Task → Task → Bool
needs_by_depends facts a b = tested facts a (λ recipe t. list_any (λ word. is_found b.0 (provider facts word.0) && bytes_eq word.1 b.1) t.depends)

-- `[deptask]`: a word is that task of the provider of each name of DEPENDS (section "Build Dependencies").
abbrev pub needs_by_deptask : FactSet → Task → Task → Bool
needs_by_deptask facts a b = tested facts a (λ recipe t. is_in b.1 t.deptask && builds_with facts b.0 recipe)

-- `[rdeptask]`: the same over RDEPENDS (section "Runtime Dependencies").
abbrev pub needs_by_rdeptask : FactSet → Task → Task → Bool
needs_by_rdeptask facts a b = tested facts a (λ recipe t. is_in b.1 t.rdeptask && runs_with facts b.0 recipe)

-- a recipe needs another one to be built or at run time
abbrev pub RecipeNeeds : FactSet → ℕ → ℕ → Type 0
RecipeNeeds facts m n = IsTrue (option_map_or (λ recipe. builds_with facts n recipe || runs_with facts n recipe) (slice_get facts.recipes m) false)

-- `[recrdeptask]`: a word is that task of the recipe itself and of every recipe that DEPENDS and RDEPENDS lead to, but not
-- the task that has the flag (section "Recursive Dependencies"; that `[depends]` leads nowhere here is an own rule).
pub record NeedsByRecrdeptask (facts : FactSet) (a b : Task) : Type 0 where
  pub word : IsTrue (tested facts a (λ recipe t. is_in b.1 t.recrdeptask))
  pub recipe : LeadsTo (RecipeNeeds facts) a.0 b.0
  pub other : (nat_eq a.0 b.0 && bytes_eq a.1 b.1) ≡ false

-- A task needs another one, which is there, in one of five ways.
pub data Needs (facts : FactSet) (a b : Task) : Type 0 where
  by_order : IsTrue (is_task facts b) → IsTrue (needs_by_order facts a b) → Needs facts a b
  by_depends : IsTrue (is_task facts b) → IsTrue (needs_by_depends facts a b) → Needs facts a b
  by_deptask : IsTrue (is_task facts b) → IsTrue (needs_by_deptask facts a b) → Needs facts a b
  by_rdeptask : IsTrue (is_task facts b) → IsTrue (needs_by_rdeptask facts a b) → Needs facts a b
  by_recrdeptask : IsTrue (is_task facts b) → NeedsByRecrdeptask facts a b → Needs facts a b
