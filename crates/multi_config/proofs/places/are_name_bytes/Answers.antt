use Rattle.std.proofs.Common.{sym}
use Rattle.std.proofs.lemmas.List.{take_all}
use Rattle.multi_config.proofs.places.are_name_bytes.Goals as goal

pub returns : goal.returns
returns c = sym (rw (take_all _ _ c.loop-byte-test.false) at c.loop-byte.invariant)
