use Rattle.std.proofs.Common.{sym}
use Rattle.std.proofs.lemmas.List.{take_all}
use Rattle.recipe_set.proofs.by_name.has_any.Goals as goal

pub returns : goal.returns
returns c = sym (rw (take_all _ _ c.loop-append-test.false) at c.loop-append.invariant)
