use Rattle.std.proofs.lemmas.List.{take_all}
use Rattle.tree_model.proofs.manifest.manifest_of.Goals as goal

pub returns : goal.returns
returns c = rw (take_all _ _ c.loop-path-test.false, c.entries-path-items.ensures.value) at c.loop-path.invariant
