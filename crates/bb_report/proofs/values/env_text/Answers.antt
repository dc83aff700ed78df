use Rattle.std.proofs.lemmas.List.{take_all}
use Rattle.bb_report.proofs.values.env_text.Goals as goal

pub returns : goal.returns
returns c = rw (take_all _ _ c.loop-row-test.false) at c.loop-row.invariant
