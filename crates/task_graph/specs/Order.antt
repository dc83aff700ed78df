-- The tasks that are found, in the order of the graph's nodes.
use Rattle.std.specs.Prelude.{◌≡◌, ℕ, List, map, length, Some, All, AllPairs, IsPermutation, slice_get, slice_index}
use Rattle.std.specs.List.{AllZip, range_with_len}
use Rattle.std.specs.List.Sorted.{IsStrictlyIncreasing}
use Rattle.std.specs.Ordering.{nat_cmp, ordering_then}
use Rattle.std.specs.declared.cmp.Ordering.{Ordering}
use Rattle.std.specs.declared.cmp.Ordering.TheVariants.{Greater}
use Rattle.meta_model.specs.declared.facts.FactSet.{FactSet}
use Rattle.meta_model.specs.declared.facts.TaskId.{TaskId}
use Rattle.meta_model.specs.declared.facts.Node.{Node}
use Rattle.meta_model.specs.declared.facts.Graph.{Graph}
use Rattle.meta_model.specs.Needs.{Task}
use Rattle.meta_model.specs.TaskGraph.{id_of, id_cmp}
use Rattle.graph_walk.specs.Edges.{edges_from}
use Rattle.graph_walk.specs.Frontier.{Has}
use Rattle.task_graph.specs.declared.order.Draft.{Draft}
use Rattle.task_graph.specs.declared.table.TaskTable.{TaskTable}
use Rattle.task_graph.specs.Table.{number_of_task}
use Rattle.task_graph.specs.Reached.{StandsAt}

-- the task with a number, as it is written
abbrev pub IsIdOf : FactSet → TaskTable → ℕ → TaskId → Type 0
IsIdOf facts table number id = (a : Task) → number_of_task table a ≡ Some number → id ≡ id_of facts a

-- the recipe of the task with a number
abbrev pub IsRecipeOf : TaskTable → ℕ → ℕ → Type 0
IsRecipeOf table number recipe = (a : Task) → number_of_task table a ≡ Some number → recipe ≡ a.0

-- the draft of the task with a number
pub record IsDraftOf (facts : FactSet) (table : TaskTable) (place number depth : ℕ) (draft : Draft) : Type 0 where
  pub placed : draft.place ≡ place
  pub deep : draft.depth ≡ depth
  pub recipe : IsRecipeOf table number draft.recipe
  pub id : IsIdOf facts table number draft.id

-- the draft of the task at its place
pub record IsDraft (facts : FactSet) (table : TaskTable) (found depths : List ℕ) (draft : Draft) : Type 0 where
  pub task : Task
  pub at : StandsAt table found draft.place task
  pub recipe : draft.recipe ≡ task.0
  pub id : draft.id ≡ id_of facts task
  pub deep : draft.depth ≡ slice_index depths draft.place

-- the order of nodes: by depth, then by PN, then by task
abbrev pub draft_cmp : Draft → Draft → Ordering
draft_cmp m n = ordering_then (nat_cmp m.depth n.depth) (id_cmp m.id n.id)

-- where the task was found
abbrev pub place_of : Draft → ℕ
place_of draft = draft.place

-- these are places of so many, each once
abbrev pub AreAllPlaces : ℕ → List Draft → Type 0
AreAllPlaces count drafts = IsPermutation (range_with_len 0 count) (map place_of drafts)

-- the drafts of the tasks at all places, in the order of nodes
pub record AreDrafts (facts : FactSet) (table : TaskTable) (found depths : List ℕ) (drafts : List Draft) : Type 0 where
  pub each : All (IsDraft facts table found depths) drafts
  pub places : AreAllPlaces (length found) drafts
  pub ascend : AllPairs (λ m n. draft_cmp m n ≡ Greater → ⊥) drafts

-- each place has the number of its draft
pub record AreRanks (drafts : List Draft) (ranks : List ℕ) : Type 0 where
  pub long : length ranks ≡ length drafts
  pub each : (k : ℕ) (draft : Draft) → slice_get drafts k ≡ Some draft → slice_get ranks draft.place ≡ Some k

-- the numbers of places, ascending and each once
pub record AreNumbers (ranks places numbers : List ℕ) : Type 0 where
  pub ascend : IsStrictlyIncreasing numbers
  pub sound : (k : ℕ) → Has numbers k → (p : ℕ) × Has places p × (slice_get ranks p ≡ Some k)
  pub whole : (p k : ℕ) → Has places p → slice_get ranks p ≡ Some k → Has numbers k

-- the node of a draft, which has the numbers of the places that it needs
pub record IsNodeOf (ranks : List ℕ) (edges : List (List ℕ)) (draft : Draft) (node : Node) : Type 0 where
  pub id : node.id ≡ draft.id
  pub recipe : node.recipe ≡ draft.recipe
  pub deep : node.depth ≡ draft.depth
  pub deps : AreNumbers ranks (edges_from edges draft.place) node.deps

-- The graph of the tasks that are found: their nodes in order, and the numbers of the targets' places.
pub record IsEmitted (facts : FactSet) (table : TaskTable) (found : List ℕ) (edges : List (List ℕ)) (ends depths : List ℕ) (graph : Graph) : Type 0 where
  pub drafts : List Draft
  pub ranks : List ℕ
  pub are : AreDrafts facts table found depths drafts
  pub ranked : AreRanks drafts ranks
  pub nodes : AllZip (IsNodeOf ranks edges) drafts graph.nodes
  pub targets : graph.targets ≡ map (slice_index ranks) ends
