use Rattle.std.proofs.lemmas.List.{take_all}
use Rattle.override_eval.proofs.late.removes_of.Goals as goal

pub returns : goal.returns
returns c = rw (take_all _ _ c.loop-line-test.false) at c.loop-line.invariant
