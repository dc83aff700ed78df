-- The tasks that targets reach, by their numbers, in the order in which they are found.
use Rattle.std.specs.Prelude.{◌≡◌, ℕ, ◌<◌, ◌≤◌, List, length, Option, Some, slice_get}
use Rattle.std.specs.List.{AllZip}
use Rattle.meta_model.specs.declared.facts.FactSet.{FactSet}
use Rattle.meta_model.specs.declared.facts.Target.{Target}
use Rattle.meta_model.specs.Walks.{IsCycle}
use Rattle.meta_model.specs.Needs.{Task, Needs}
use Rattle.meta_model.specs.GraphRefusal.{GraphRefusal, target_task, IsRefused}
use Rattle.meta_model.specs.TaskGraph.{IsGraphRefusal, IsReached, IsTaskCycle, HasMoreTasks}
use Rattle.task_graph.specs.declared.fault.GraphFault.{GraphFault}
use Rattle.task_graph.specs.declared.table.TaskTable.{TaskTable}
use Rattle.task_graph.specs.Faults.{IsFaultOf}
use Rattle.graph_walk.specs.Frontier.{with_nodes, IsFrontier, IsSearch, Has}
use Rattle.task_graph.specs.Table.{number_of_task}
use Rattle.task_graph.specs.Context.{IsNumberOf}
use Rattle.task_graph.specs.Edges.{HasEdges}

-- Why there is no graph: a refusal of a target or of a task that is reached; tasks that are reached and need each other; or
-- more than 65,536 tasks. Of want of memory nothing is claimed.
abbrev pub IsGraphFault : FactSet → List Target → GraphFault → Type 0
IsGraphFault facts targets fault = IsFaultOf (IsGraphRefusal facts targets) (IsTaskCycle facts targets) (HasMoreTasks facts targets 65536) fault

-- one task needs another, by their numbers
abbrev pub TaskEdge : FactSet → TaskTable → ℕ → ℕ → Type 0
TaskEdge facts table u v = (a : Task) × (b : Task) × (number_of_task table a ≡ Some u) × (number_of_task table b ≡ Some v) × Needs facts a b

-- What a task needs is found, and these are the places.
pub record HasFoundNext (facts : FactSet) (table : TaskTable) (u : ℕ) (old new places : List ℕ) : Type 0 where
  pub needed : List ℕ
  pub edges : HasEdges facts table u needed
  pub grown : new ≡ with_nodes old needed
  pub placed : AllZip (λ node place. slice_get new place ≡ Some node) needed places

-- With what a task needs more than 65,536 tasks are found.
pub record GoesBeyond (facts : FactSet) (table : TaskTable) (u : ℕ) (old : List ℕ) : Type 0 where
  pub needed : List ℕ
  pub numbers : List (Option ℕ)
  pub edges : HasEdges facts table u needed
  pub frontier : IsFrontier (with_nodes old needed) numbers
  pub many : 65536 < length (with_nodes old needed)

-- The numbers that stand at these places are just those of the nodes that a node leads to in one step.
pub record ArePlaces (R : ℕ → ℕ → Type 0) (found : List ℕ) (v : ℕ) (places : List ℕ) : Type 0 where
  pub sound : (p : ℕ) → Has places p → (w : ℕ) × (slice_get found p ≡ Some w) × R v w
  pub whole : (w : ℕ) → R v w → (p : ℕ) × Has places p × (slice_get found p ≡ Some w)

-- each target stands for the task at a place
abbrev pub AreEnds : FactSet → TaskTable → List Target → List ℕ → List ℕ → Type 0
AreEnds facts table targets found places = AllZip (λ target p. (u : ℕ) × (slice_get found p ≡ Some u) × IsNumberOf table (target_task facts target) u) targets places

-- The tasks that targets reach, each once; of each the places of those that it needs; and the places of the targets. None is
-- refused.
pub record AreReached (facts : FactSet) (table : TaskTable) (targets : List Target) (found : List ℕ) (edges : List (List ℕ)) (ends : List ℕ) : Type 0 where
  pub few : length found ≤ 65536
  pub long : length edges ≡ length found
  pub sound : (v : ℕ) → Has found v → (a : Task) × (number_of_task table a ≡ Some v) × IsReached facts targets a
  pub whole : (a : Task) → IsReached facts targets a → (v : ℕ) × (number_of_task table a ≡ Some v) × Has found v
  pub once : (i j v : ℕ) → slice_get found i ≡ Some v → slice_get found j ≡ Some v → i ≡ j
  pub needs : (k v : ℕ) (places : List ℕ) → slice_get found k ≡ Some v → slice_get edges k ≡ Some places → ArePlaces (TaskEdge facts table) found v places
  pub unrefused : (a : Task) (v : ℕ) (refusal : GraphRefusal) → number_of_task table a ≡ Some v → Has found v → IsRefused facts a refusal → ⊥
  pub placed : AreEnds facts table targets found ends

-- The search so far: the nodes before `next` are gone through.
pub record IsReaching (facts : FactSet) (table : TaskTable) (targets : List Target) (found : List ℕ) (numbers : List (Option ℕ)) (next : ℕ) (edges : List (List ℕ)) (ends : List ℕ) : Type 0 where
  pub starts : List ℕ
  pub meant : AllZip (λ target u. IsNumberOf table (target_task facts target) u) targets starts
  pub placed : AllZip (λ node place. slice_get found place ≡ Some node) starts ends
  pub frontier : IsFrontier found numbers
  pub count : length numbers ≡ length table.spots.items
  pub few : length found ≤ 65536
  pub search : IsSearch (TaskEdge facts table) starts found next
  pub long : length edges ≡ next
  pub behind : next ≤ length found
  pub needs : (k v : ℕ) (places : List ℕ) → slice_get found k ≡ Some v → slice_get edges k ≡ Some places → ArePlaces (TaskEdge facts table) found v places
  pub unrefused : (k v : ℕ) → k < next → slice_get found k ≡ Some v → (a : Task) (refusal : GraphRefusal) → number_of_task table a ≡ Some v → IsRefused facts a refusal → ⊥

-- the task whose number stands at a place
abbrev pub StandsAt : TaskTable → List ℕ → ℕ → Task → Type 0
StandsAt table found place a = (v : ℕ) × (slice_get found place ≡ Some v) × (number_of_task table a ≡ Some v)

-- The tasks at these places are reached, and each needs the next, and the last one the first.
pub record HasTaskCycle (facts : FactSet) (table : TaskTable) (targets : List Target) (found places : List ℕ) : Type 0 where
  pub tasks : List Task
  pub at : AllZip (λ place a. StandsAt table found place a × IsReached facts targets a) places tasks
  pub closed : IsCycle (Needs facts) tasks
