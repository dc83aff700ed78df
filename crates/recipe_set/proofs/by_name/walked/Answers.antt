use Rattle.std.proofs.lemmas.List.{take_all}
use Rattle.recipe_set.proofs.by_name.walked.Goals as goal

pub returns : goal.returns
returns c = rw (take_all _ _ c.loop-append-test.false) at c.loop-append.invariant
