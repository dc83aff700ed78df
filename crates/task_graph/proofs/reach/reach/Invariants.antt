use Rattle.std.proofs.Common.{◌+◌, ◌-◌, length, sum_by}
use Rattle.graph_walk.specs.Frontier.{free}
use Rattle.task_graph.specs.Reached.{IsReaching}
use Rattle.task_graph.proofs.reach.reach.Given as goal

abbrev pub invariant-loop-next : goal.invariant-loop-next
invariant-loop-next l = IsReaching l.facts l.context.table l.targets l.frontier.found.items l.frontier.numbers.items l.next l.edges.items l.ends-inside.items.items

abbrev pub decreases-loop-next : goal.decreases-loop-next
decreases-loop-next l = length l.frontier.found.items + sum_by free l.frontier.numbers.items - l.next
