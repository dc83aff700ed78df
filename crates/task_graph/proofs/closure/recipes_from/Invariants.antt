use Rattle.std.proofs.Common.{◌≡◌, ◌+◌, ◌-◌, ◌∷◌, [], length, sum_by}
use Rattle.graph_walk.specs.Frontier.{IsFrontier, IsSearch, free}
use Rattle.task_graph.specs.Below.{RecipeEdge}
use Rattle.task_graph.proofs.closure.recipes_from.Given as goal

abbrev pub invariant-loop-next : goal.invariant-loop-next
invariant-loop-next l = record {
  frontier : IsFrontier l.frontier.found.items l.frontier.numbers.items;
  count : length l.frontier.numbers.items ≡ length l.all;
  search : IsSearch (RecipeEdge l.all) (l.recipe ∷ []) l.frontier.found.items l.next;
}

abbrev pub decreases-loop-next : goal.decreases-loop-next
decreases-loop-next l = length l.frontier.found.items + sum_by free l.frontier.numbers.items - l.next
