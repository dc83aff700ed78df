-- The numbers of the tasks that a task needs.
use Rattle.std.specs.Prelude.{◌≡◌, ℕ, List, [], ◌∷◌, ◌++◌, length, All, Any, Some, Ok, Err, false, ◌⊎◌, filter, not, nat_eq, slice_get}
use Rattle.std.specs.List.{filter_map}
use Rattle.meta_model.specs.declared.facts.FactSet.{FactSet}
use Rattle.meta_model.specs.declared.facts.RecipeFacts.{RecipeFacts}
use Rattle.meta_model.specs.declared.facts.TaskFacts.{TaskFacts}
use Rattle.meta_model.specs.Providers.{provider, runtime_provider}
use Rattle.meta_model.specs.Needs.{Task, Needs, build_names, run_names}
use Rattle.meta_model.specs.GraphRefusal.{GraphRefusal, word_task, IsRefused}
use Rattle.task_graph.specs.declared.table.TaskTable.{TaskTable}
use Rattle.task_graph.specs.declared.needed.Needed.{Needed}
use Rattle.graph_walk.specs.Frontier.{Has}
use Rattle.task_graph.specs.Needed.{lacks_provider, resolved}
use Rattle.task_graph.specs.Table.{number_of_task}
use Rattle.task_graph.specs.Below.{RecipeEdge, AreRecipesFrom}
use Rattle.task_graph.specs.Context.{LacksToBuild, LacksToRun, numbers_of_tasks, number_of_word}
use Rattle.meta_model.specs.Walks.{LeadsTo}

-- these are, as a set, the numbers of the tasks that a task needs
pub record AreEdges (facts : FactSet) (table : TaskTable) (a : Task) (numbers : List ℕ) : Type 0 where
  pub sound : (v : ℕ) → Has numbers v → (b : Task) × (number_of_task table b ≡ Some v) × Needs facts a b
  pub whole : (b : Task) (v : ℕ) → number_of_task table b ≡ Some v → Needs facts a b → Has numbers v

-- all but one
abbrev pub others_of : ℕ → List ℕ → List ℕ
others_of u numbers = filter (λ v. not (nat_eq v u)) numbers

-- the recipe with this number lacks a provider of a name that it needs
abbrev pub LacksAt : FactSet → ℕ → GraphRefusal → Type 0
LacksAt facts n refusal = (recipe : RecipeFacts) × (slice_get facts.recipes n ≡ Some recipe) × (LacksToBuild facts recipe refusal ⊎ LacksToRun facts recipe refusal)

-- a recipe among these does
abbrev pub LacksBelow : FactSet → List ℕ → GraphRefusal → Type 0
LacksBelow facts below refusal = (n : ℕ) × Has below n × LacksAt facts n refusal

-- each name that a recipe needs has a provider
pub record HasAllProviders (facts : FactSet) (recipe : RecipeFacts) : Type 0 where
  pub building : lacks_provider (provider facts) (build_names facts recipe) ≡ false
  pub running : lacks_provider (runtime_provider facts) (run_names recipe) ≡ false

-- What `[recrdeptask]` puts behind others: of the recipes that the recipe leads to, each of which has all providers, the tasks
-- of these names, but for the task itself. Without names it puts nothing.
pub record PutsBelow (facts : FactSet) (table : TaskTable) (all : List Needed) (u recipe : ℕ) (names : List (List ℕ)) (old new : List ℕ) : Type 0 where
  pub below : List ℕ
  pub put : new ≡ old ++ others_of u (numbers_of_tasks table below names)
  pub led : (length names ≡ 0 → ⊥) → AreRecipesFrom all recipe below
  pub provided : (length names ≡ 0 → ⊥) → (n : ℕ) (r : RecipeFacts) → Has below n → slice_get facts.recipes n ≡ Some r → HasAllProviders facts r

-- a recipe that a recipe leads to lacks a provider of a name
abbrev pub LacksFrom : FactSet → List Needed → ℕ → GraphRefusal → Type 0
LacksFrom facts all recipe refusal = (n : ℕ) × LeadsTo (RecipeEdge all) recipe n × LacksAt facts n refusal

-- What a task's words put in a row, in the order of the kinds of edges.
pub record HasPushed (facts : FactSet) (table : TaskTable) (all : List Needed) (u recipe : ℕ) (r : RecipeFacts) (t : TaskFacts) (out : List ℕ) : Type 0 where
  pub below : List ℕ
  pub put : out ≡ numbers_of_tasks table (recipe ∷ []) t.after ++ filter_map (number_of_word facts table) t.depends ++ numbers_of_tasks table (resolved (provider facts) (build_names facts r)) t.deptask
      ++ numbers_of_tasks table (resolved (runtime_provider facts) (run_names r)) t.rdeptask ++ others_of u (numbers_of_tasks table below t.recrdeptask)
  pub words : All (λ w. (b : Task) × (word_task facts w ≡ Ok b)) t.depends
  pub building : (length t.deptask ≡ 0 → ⊥) → lacks_provider (provider facts) (build_names facts r) ≡ false
  pub running : (length t.rdeptask ≡ 0 → ⊥) → lacks_provider (runtime_provider facts) (run_names r) ≡ false
  pub led : (length t.recrdeptask ≡ 0 → ⊥) → AreRecipesFrom all recipe below
  pub provided : (length t.recrdeptask ≡ 0 → ⊥) → (n : ℕ) (other : RecipeFacts) → Has below n → slice_get facts.recipes n ≡ Some other → HasAllProviders facts other

-- Why a task's words are refused.
pub data LacksOf (facts : FactSet) (all : List Needed) (recipe : ℕ) (r : RecipeFacts) (t : TaskFacts) (refusal : GraphRefusal) : Type 0 where
  in_word : Any (λ w. word_task facts w ≡ Err refusal) t.depends → LacksOf facts all recipe r t refusal
  in_deptask : (length t.deptask ≡ 0 → ⊥) → LacksToBuild facts r refusal → LacksOf facts all recipe r t refusal
  in_rdeptask : (length t.rdeptask ≡ 0 → ⊥) → LacksToRun facts r refusal → LacksOf facts all recipe r t refusal
  in_recrdeptask : (length t.recrdeptask ≡ 0 → ⊥) → LacksFrom facts all recipe refusal → LacksOf facts all recipe r t refusal

-- the number of a task
abbrev pub IsNumbered : TaskTable → ℕ → Type 0
IsNumbered table u = (a : Task) × (number_of_task table a ≡ Some u)

-- The numbers of just the tasks that the task with a number needs, which nothing refuses.
pub record HasEdges (facts : FactSet) (table : TaskTable) (u : ℕ) (out : List ℕ) : Type 0 where
  pub edges : (a : Task) → number_of_task table a ≡ Some u → AreEdges facts table a out
  pub whole : (a : Task) (refusal : GraphRefusal) → number_of_task table a ≡ Some u → IsRefused facts a refusal → ⊥

-- the task with a number is refused
abbrev pub IsRefusedAt : FactSet → TaskTable → ℕ → GraphRefusal → Type 0
IsRefusedAt facts table u refusal = (a : Task) × (number_of_task table a ≡ Some u) × IsRefused facts a refusal
