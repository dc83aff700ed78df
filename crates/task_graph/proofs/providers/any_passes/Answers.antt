use Rattle.std.proofs.Common.{sym}
use Rattle.std.proofs.lemmas.List.{take_all}
use Rattle.task_graph.proofs.providers.any_passes.Goals as goal

pub returns : goal.returns
returns c = sym (rw (take_all _ _ c.loop-recipe-test.false, c.as_slice-recipe-items.ensures) at c.loop-recipe.invariant)
