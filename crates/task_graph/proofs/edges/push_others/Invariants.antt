use Rattle.std.proofs.Common.{◌≡◌, ◌++◌, take}
use Rattle.task_graph.specs.Edges.{others_of}
use Rattle.task_graph.proofs.edges.push_others.Given as goal

abbrev pub invariant-loop-number : goal.invariant-loop-number
invariant-loop-number l = l.out.items ≡ l.fn.out.items ++ others_of l.but (take l.number-index l.numbers)
