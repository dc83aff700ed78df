use Rattle.std.proofs.Common.{◌∙◌}
use Rattle.std.proofs.lemmas.List.{take_all}
use Rattle.hash_equiv.proofs.copies.copy_manifest.Goals as goal

pub returns : goal.returns
returns c = c.from_lines.ensures ∙ (rw (take_all _ _ c.loop-line-test.false, c.lines-line-items.ensures) at c.loop-line.invariant)
