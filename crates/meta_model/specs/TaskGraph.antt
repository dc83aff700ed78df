-- The graph of the tasks that targets reach.
use Rattle.std.specs.Prelude.{◌≡◌, ◌⊎◌, ℕ, ◌<◌, List, [], map, length, Option, Some, Err, Ok, All, AllPairs, Any, Contains, slice_get}
use Rattle.std.specs.List.Sorted.{IsStrictlyIncreasing}
use Rattle.std.specs.Option.{option_map}
use Rattle.std.specs.Result.{result_ok}
use Rattle.std.specs.Ordering.{nat_cmp, ordering_then}
use Rattle.std.specs.Cmp.Lexicographic.{slice_cmp}
use Rattle.std.specs.declared.cmp.Ordering.{Ordering}
use Rattle.std.specs.declared.cmp.Ordering.TheVariants.{Greater}
use Rattle.meta_model.specs.declared.facts.FactSet.{FactSet}
use Rattle.meta_model.specs.declared.facts.Target.{Target}
use Rattle.meta_model.specs.declared.facts.TaskId.{TaskId}
use Rattle.meta_model.specs.declared.facts.Node.{Node}
use Rattle.meta_model.specs.declared.facts.Graph.{Graph}
use Rattle.meta_model.specs.Walks.{LeadsTo, IsDepth, IsCycle}
use Rattle.meta_model.specs.Needs.{Task, Needs}
use Rattle.meta_model.specs.GraphRefusal.{GraphRefusal, target_task, pn_of, IsRefused}

-- a target stands for this task
abbrev pub IsTarget : FactSet → List Target → Task → Type 0
IsTarget facts targets a = Any (λ target. target_task facts target ≡ Ok a) targets

-- The tasks that the targets reach: those that they stand for, and all that these lead to.
abbrev pub IsReached : FactSet → List Target → Task → Type 0
IsReached facts targets a = (b : Task) × IsTarget facts targets b × LeadsTo (Needs facts) b a

-- a task as it is written, in the default configuration
abbrev pub id_of : FactSet → Task → TaskId
id_of facts a = record { mc = []; pn = pn_of facts a.0; task = a.1 }

-- the order of tasks as they are written: by PN, then by task, byte by byte
abbrev pub id_cmp : TaskId → TaskId → Ordering
id_cmp x y = ordering_then (slice_cmp nat_cmp x.pn y.pn) (slice_cmp nat_cmp x.task y.task)

-- the task of a node
abbrev pub node_task : Node → Task
node_task node = (node.recipe, node.id.task)

abbrev pub node_at : Graph → ℕ → Option Task
node_at graph k = option_map node_task (slice_get graph.nodes k)

-- the order of nodes: by depth, then by PN, then by task
abbrev pub node_cmp : Node → Node → Ordering
node_cmp m n = ordering_then (nat_cmp m.depth n.depth) (id_cmp m.id n.id)

-- The numbers of a node's dependencies ascend, and are just those of the nodes that it needs.
pub record HasDependencies (facts : FactSet) (graph : Graph) (node : Node) : Type 0 where
  pub ascend : IsStrictlyIncreasing node.deps
  pub sound : All (λ k. (b : Task) × (node_at graph k ≡ Some b) × Needs facts (node_task node) b) node.deps
  pub whole : (k : ℕ) (b : Task) → node_at graph k ≡ Some b → Needs facts (node_task node) b → Contains node.deps k

-- The graph of the targets: its nodes are, each once, the tasks that the targets reach, ascending by depth, PN and task;
-- each has its dependencies and its depth, and each target has its node's number.
pub record IsGraph (facts : FactSet) (targets : List Target) (graph : Graph) : Type 0 where
  pub written : All (λ node. node.id ≡ id_of facts (node_task node)) graph.nodes
  pub sound : All (λ node. IsReached facts targets (node_task node)) graph.nodes
  pub whole : (a : Task) → IsReached facts targets a → Any (λ node. node_task node ≡ a) graph.nodes
  pub once : AllPairs (λ m n. node_task m ≡ node_task n → ⊥) graph.nodes
  pub ascend : AllPairs (λ m n. node_cmp m n ≡ Greater → ⊥) graph.nodes
  pub dependencies : All (HasDependencies facts graph) graph.nodes
  pub depths : All (λ node. IsDepth (Needs facts) (node_task node) node.depth) graph.nodes
  pub ends : map (node_at graph) graph.targets ≡ map (λ target. result_ok (target_task facts target)) targets
  pub found : All (λ k. k < length graph.nodes) graph.targets

-- A target has no task, or a task that is reached is refused.
abbrev pub IsGraphRefusal : FactSet → List Target → GraphRefusal → Type 0
IsGraphRefusal facts targets refusal = Any (λ target. target_task facts target ≡ Err refusal) targets ⊎ ((a : Task) × IsReached facts targets a × IsRefused facts a refusal)

-- Nothing that the targets ask for is refused.
pub record HasNoRefusal (facts : FactSet) (targets : List Target) : Type 0 where
  pub ends : All (λ target. (a : Task) × (target_task facts target ≡ Ok a)) targets
  pub tasks : (a : Task) (refusal : GraphRefusal) → IsReached facts targets a → IsRefused facts a refusal → ⊥

-- One of these tasks, the first in the order of tasks, needs the next, and so on, and the last needs the first.
pub record IsTaskCycle (facts : FactSet) (targets : List Target) (ids : List TaskId) : Type 0 where
  pub cycle : List Task
  pub written : ids ≡ map (id_of facts) cycle
  pub closed : IsCycle (Needs facts) cycle
  pub reached : All (IsReached facts targets) cycle
  pub least : (first : TaskId) → slice_get ids 0 ≡ Some first → All (λ id. id_cmp first id ≡ Greater → ⊥) ids

-- More tasks are reached than a graph may have.
pub record HasMoreTasks (facts : FactSet) (targets : List Target) (limit : ℕ) : Type 0 where
  pub tasks : List Task
  pub many : limit < length tasks
  pub once : AllPairs (λ a b. a ≡ b → ⊥) tasks
  pub reached : All (IsReached facts targets) tasks
