use Rattle.std.proofs.Common.{sym}
use Rattle.std.proofs.lemmas.List.{take_all}
use Rattle.layer_conf.proofs.files.matches_any.Goals as goal

pub returns : goal.returns
returns c = sym (rw (take_all _ _ c.loop-glob-test.false) at c.loop-glob.invariant)
