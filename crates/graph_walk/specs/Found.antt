-- What is found of a graph whose nodes are numbers.
use Rattle.std.specs.Prelude.{◌≡◌, ℕ, ◌<◌, List, All, length, slice_index}
use Rattle.meta_model.specs.Walks.{IsDepth, IsCycle}
use Rattle.graph_walk.specs.declared.depth.Depths.{Depths}
use Rattle.graph_walk.specs.declared.depth.Depths.TheVariants.{Found, Cycle}
use Rattle.graph_walk.specs.Edges.{HasEdge}

-- each node's depth, by its number
pub record HasDepths (edges : List (List ℕ)) (depths : List ℕ) : Type 0 where
  pub long : length depths ≡ length edges
  pub each : (v : ℕ) → v < length edges → IsDepth (HasEdge edges) v (slice_index depths v)
  pub small : All (λ depth. depth < length edges) depths

-- these are nodes, each needs the next, and the last one the first
pub record HasCycle (edges : List (List ℕ)) (cycle : List ℕ) : Type 0 where
  pub closed : IsCycle (HasEdge edges) cycle
  pub nodes : All (λ v. v < length edges) cycle

-- the depths of all nodes, or a cycle
abbrev pub AreDepths : List (List ℕ) → Depths → Type 0
AreDepths edges (Found depths) = HasDepths edges depths.items
AreDepths edges (Cycle nodes) = HasCycle edges nodes.items
