use Rattle.std.proofs.lemmas.List.{take_all}
use Rattle.target_graph.proofs.part.targets_again.Goals as goal

pub returns : goal.returns
returns c = rw (take_all _ _ c.loop-target-test.false) at c.loop-target.invariant
