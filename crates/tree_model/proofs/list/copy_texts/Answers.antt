use Rattle.std.proofs.lemmas.List.{take_all}
use Rattle.tree_model.proofs.list.copy_texts.Goals as goal

pub returns : goal.returns
returns c = rw (take_all _ _ c.loop-text-test.false) at c.loop-text.invariant
