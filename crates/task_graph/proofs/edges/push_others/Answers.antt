use Rattle.std.proofs.lemmas.List.{take_all}
use Rattle.task_graph.proofs.edges.push_others.Goals as goal

pub returns : goal.returns
returns c = rw (take_all _ _ c.loop-number-test.false) at c.loop-number.invariant
