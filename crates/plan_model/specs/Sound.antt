-- Plans that are sound, and what makes the plan of a graph one.
use Rattle.std.specs.Prelude.{◌≡◌, ◌≢◌, ◌≤◌, ◌<◌, ◌⊎◌, ℕ, true, false, List, [], ◌∷◌, length, All, AllPairs, Some, Ok, IsSome, Contains, codes}
use Rattle.std.specs.List.{slice_get}
use Rattle.std.specs.List.Sorted.{IsStrictlyIncreasing}
use Rattle.tree_model.specs.Path.{IsPart, IsClean, parts_of}
use Rattle.tree_model.specs.Tree.{IsTree}
use Rattle.meta_model.specs.declared.facts.FactSet.{FactSet}
use Rattle.meta_model.specs.declared.facts.Graph.{Graph}
use Rattle.meta_model.specs.declared.facts.Target.{Target}
use Rattle.meta_model.specs.declared.plan.Plan.{Plan}
use Rattle.meta_model.specs.declared.plan.PlanTask.{PlanTask}
use Rattle.meta_model.specs.TaskGraph.{IsGraph}
use Rattle.load_model.specs.Loading.{sources_of}
use Rattle.load_model.specs.Layers.{Config, config}
use Rattle.load_model.specs.Facts.{RecipeSet, recipe_set}
use Rattle.load_model.specs.Recipes.{is_pn}
use Rattle.store_model.specs.Signatures.{is_order, line_cmp}
use Rattle.store_model.specs.Spelled.{Ascends}
use Rattle.store_model.specs.Valid.{IsPlain}
use Rattle.store_model.specs.Premises.{Differ}
use Rattle.store_model.specs.SoundPlan.{IsSoundPlan}
use Rattle.plan_model.specs.Inputs.{Files}
use Rattle.plan_model.specs.Plans.{plan_of, forced, IsOver}
use Rattle.plan_model.specs.Names.{is_task_name}

-- the path has one part
pub record IsOnePart (path : List ℕ) : Type 0 where
  pub part : IsPart path
  pub alone : parts_of path ≡ path ∷ []

-- a folder of a work tree or of an output: the whole, or a place in it
abbrev pub IsFolder : List ℕ → Type 0
IsFolder folder = (folder ≡ codes ".") ⊎ IsClean folder

-- What is asked of a task at its number: its PN is one that a recipe may have, and its name one that a task may have; it needs
-- different tasks, each of a number below its own; its key's lines ascend strictly by name, and none has the name `=`; its files
-- are plain, at paths of one part; its places are folders.
pub record IsSoundTask (n : ℕ) (task : PlanTask) : Type 0 where
  pub pn : is_pn task.id.pn ≡ true
  pub name : is_task_name task.id.task ≡ true
  pub deps : IsStrictlyIncreasing task.deps
  pub below : All (λ d. d < n) task.deps
  pub ascends : Ascends line_cmp task.key.lines
  pub no_order : All (λ l. is_order l ≡ false) task.key.lines
  pub plain : All IsPlain task.files
  pub parts : All (λ e. IsOnePart e.0) task.files
  pub tree : IsTree task.files
  pub inner : All (λ p. IsFolder p.0) task.places
  pub outer : All (λ p. IsFolder p.1) task.places

-- A plan is sound: 1 to 16 threads, at most 65,536 tasks, targets among them, all tasks of one configuration, each two of which
-- differ in their PN or in their name (own rule).
pub record IsSound (plan : Plan) : Type 0 where
  pub threads : (1 ≤ plan.threads) × (plan.threads ≤ 16)
  pub few : length plan.tasks ≤ 65536
  pub targets : All (λ n. n < length plan.tasks) plan.targets
  pub mc : AllPairs (λ a b. a.id.mc ≡ b.id.mc) plan.tasks
  pub differ : AllPairs Differ plan.tasks
  pub tasks : (n : ℕ) (task : PlanTask) → slice_get plan.tasks n ≡ Some task → IsSoundTask n task

-- each task of the plan is a target, or one that another task needs directly
abbrev pub AreWanted : Plan → Type 0
AreWanted plan = (t : ℕ) → t < length plan.tasks → Contains plan.targets t ⊎ ((u : ℕ) × (task : PlanTask) × (slice_get plan.tasks u ≡ Some task) × Contains task.deps t)

-- What is asked of facts: each recipe has a PN that a recipe may have, no two have the same, and their tasks have names that
-- tasks may have.
pub record HasGoodNames (facts : FactSet) : Type 0 where
  pub pns : All (λ r. is_pn r.pn ≡ true) facts.recipes
  pub once : AllPairs (λ a b. a.pn ≢ b.pn) facts.recipes
  pub tasks : All (λ r. All (λ t. is_task_name t.task ≡ true) r.tasks) facts.recipes

-- files stand at clean paths
abbrev pub AreClean : Files → Type 0
AreClean files = (path : List ℕ) → IsSome (files path) → IsClean path

-- What the plan of a graph is made from, where it is to be sound: files at clean paths, facts with good names, a graph of these
-- facts with at most 65,536 tasks, and 1 to 16 threads.
pub record IsMadeFrom (files : Files) (set : RecipeSet) (graph : Graph) (threads : ℕ) : Type 0 where
  pub clean : AreClean files
  pub names : HasGoodNames set.facts
  pub targets : List Target
  pub is_graph : IsGraph set.facts targets graph
  pub few : length graph.nodes ≤ 65536
  pub in_range : (1 ≤ threads) × (threads ≤ 16)

-- The plan of a graph is sound.
abbrev pub PlanIsSound : Type 0
PlanIsSound = (files : Files) (set : RecipeSet) (graph : Graph) (threads : ℕ) (plan : Plan) → IsMadeFrom files set graph threads → plan_of files set graph threads ≡ Ok plan → IsSound plan

-- Each task of the plan of a graph is a target, or one that another needs directly.
abbrev pub PlanIsWanted : Type 0
PlanIsWanted = (files : Files) (set : RecipeSet) (targets : List Target) (graph : Graph) (threads : ℕ) (plan : Plan) → IsGraph set.facts targets graph → plan_of files set graph threads ≡ Ok plan → AreWanted plan

-- It stays so where the targets' tasks are forced.
abbrev pub ForcedIsWanted : Type 0
ForcedIsWanted = (plan : Plan) → AreWanted plan → AreWanted (forced plan)

-- A sound plan meets what the laws of reuse ask.
abbrev pub SoundMeets : Type 0
SoundMeets = (plan : Plan) → IsSound plan → IsSoundPlan plan

-- A sound plan of which the targets' tasks are forced stays sound.
abbrev pub ForcedIsSound : Type 0
ForcedIsSound = (plan : Plan) → IsSound plan → IsSound (forced plan)

-- The recipes of a project, as they are read from its files, and their tasks have such names.
abbrev pub ProjectHasGoodNames : Type 0
ProjectHasGoodNames = (files : Files) (paths : List (List ℕ)) (made : Config) (set : RecipeSet) → config (sources_of files) paths ≡ Ok made → recipe_set (sources_of files) made.lines made.recipes made.appends ≡ Ok set → HasGoodNames set.facts

-- The nodes of a graph are of recipes of its facts.
abbrev pub GraphIsOver : Type 0
GraphIsOver = (facts : FactSet) (targets : List Target) (graph : Graph) → IsGraph facts targets graph → IsOver facts graph

-- The targets have one graph, where no two recipes have one PN.
abbrev pub GraphsAreOne : Type 0
GraphsAreOne = (facts : FactSet) (targets : List Target) (one other : Graph) → HasGoodNames facts → IsGraph facts targets one → IsGraph facts targets other → one ≡ other
