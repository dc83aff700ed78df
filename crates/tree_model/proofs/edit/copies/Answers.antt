use Rattle.std.proofs.lemmas.List.{take_all}
use Rattle.tree_model.proofs.edit.copies.Goals as goal

pub returns : goal.returns
returns c = rw (take_all _ _ c.loop-entry-test.false) at c.loop-entry.invariant
