use Rattle.std.proofs.lemmas.List.{take_all}
use Rattle.bb_report.proofs.versions.versions_text.Goals as goal

pub returns : goal.returns
returns c = rw (take_all _ _ c.loop-recipe-test.false, c.as_slice-recipe-items.ensures) at c.loop-recipe.invariant
