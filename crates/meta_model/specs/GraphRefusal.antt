-- Why there is no task graph: what targets and tasks ask for and nobody has.
use Rattle.std.specs.Prelude.{◌≡◌, ℕ, Bool, false, not, ◌&&◌, List, [], ◌∷◌, Result, Ok, Err, IsTrue, bytes_eq, slice_get, if◌then◌else◌}
use Rattle.std.specs.List.{list_any}
use Rattle.std.specs.Option.{option_map_or}
use Rattle.meta_model.specs.declared.facts.FactSet.{FactSet}
use Rattle.meta_model.specs.declared.facts.RecipeFacts.{RecipeFacts}
use Rattle.meta_model.specs.declared.facts.Target.{Target}
use Rattle.meta_model.specs.Text.{is_in, is_empty}
use Rattle.meta_model.specs.Providers.{provider, runtime_provider}
use Rattle.meta_model.specs.Walks.{LeadsTo}
use Rattle.meta_model.specs.Needs.{Task, is_task, tested, build_names, run_names, RecipeNeeds}

-- Nothing provides a name; several do, with their PNs, and none is chosen; the provider of a name lacks a task.
pub data GraphRefusal : Type 0 where
  nothing_provides : (name : List ℕ) → GraphRefusal
  several_provide : (name : List ℕ) → (pns : List (List ℕ)) → GraphRefusal
  no_such_task : (pn task : List ℕ) → GraphRefusal

-- the refusal of a name that has no provider
abbrev pub unprovided : List ℕ → List (List ℕ) → GraphRefusal
unprovided name [] = nothing_provides name
unprovided name (pn ∷ pns) = several_provide name (pn ∷ pns)

abbrev pub pn_of : FactSet → ℕ → List ℕ
pn_of facts n = option_map_or (λ recipe. recipe.pn) (slice_get facts.recipes n) []

-- the task of a provider, which has to be there
abbrev pub task_there : FactSet → List ℕ → List ℕ → Result ℕ (List (List ℕ)) → Result Task GraphRefusal
task_there facts name task (Err pns) = Err (unprovided name pns)
task_there facts name task (Ok n) = if is_task facts (n, task) then Ok (n, task) else Err (no_such_task (pn_of facts n) task)

-- The task that a target stands for: that of the provider of its name.
abbrev pub target_task : FactSet → Target → Result Task GraphRefusal
target_task facts target = task_there facts target.name target.task (provider facts target.name)

-- The task that a word of `[depends]` stands for. A word that names no task, having no colon, is refused like a name that
-- nothing provides (own rule).
abbrev pub word_task : FactSet → List ℕ × List ℕ → Result Task GraphRefusal
word_task facts word = if is_empty word.1 then Err (nothing_provides word.0) else task_there facts word.0 word.1 (provider facts word.0)

-- A flag with a word asks for the providers of all names, and `[recrdeptask]` for those of the names of every recipe that
-- it goes through.
abbrev pub asks_to_build : FactSet → Task → List ℕ → Bool
asks_to_build facts a name = tested facts a (λ recipe t. not (is_empty t.deptask) && is_in name (build_names facts recipe))

abbrev pub asks_to_run : FactSet → Task → List ℕ → Bool
asks_to_run facts a name = tested facts a (λ recipe t. not (is_empty t.rdeptask) && is_in name (run_names recipe))

pub record GoesThrough (facts : FactSet) (a : Task) (n : ℕ) : Type 0 where
  pub flag : IsTrue (tested facts a (λ recipe t. not (is_empty t.recrdeptask)))
  pub recipe : LeadsTo (RecipeNeeds facts) a.0 n

-- a recipe has this name among the names of a kind
abbrev pub has_name : FactSet → (RecipeFacts → List (List ℕ)) → List ℕ → ℕ → Bool
has_name facts names name n = option_map_or (λ recipe. is_in name (names recipe)) (slice_get facts.recipes n) false

-- A task is refused: a word of its `[depends]` has no task, or a name that one of its flags asks for has no provider.
pub data IsRefused (facts : FactSet) (a : Task) (refusal : GraphRefusal) : Type 0 where
  word : (w : List ℕ × List ℕ) → IsTrue (tested facts a (λ recipe t. list_any (λ v. bytes_eq v.0 w.0 && bytes_eq v.1 w.1) t.depends)) → word_task facts w ≡ Err refusal → IsRefused facts a refusal
  to_build : (name : List ℕ) (pns : List (List ℕ)) → IsTrue (asks_to_build facts a name) → provider facts name ≡ Err pns → refusal ≡ unprovided name pns → IsRefused facts a refusal
  to_run : (name : List ℕ) (pns : List (List ℕ)) → IsTrue (asks_to_run facts a name) → runtime_provider facts name ≡ Err pns → refusal ≡ unprovided name pns → IsRefused facts a refusal
  below_to_build : (name : List ℕ) (pns : List (List ℕ)) (n : ℕ) → GoesThrough facts a n → IsTrue (has_name facts (build_names facts) name n) → provider facts name ≡ Err pns → refusal ≡ unprovided name pns → IsRefused facts a refusal
  below_to_run : (name : List ℕ) (pns : List (List ℕ)) (n : ℕ) → GoesThrough facts a n → IsTrue (has_name facts run_names name n) → runtime_provider facts name ≡ Err pns → refusal ≡ unprovided name pns → IsRefused facts a refusal
