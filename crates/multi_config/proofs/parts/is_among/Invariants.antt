use Rattle.std.proofs.Common.{◌≡◌, false, take}
use Rattle.meta_model.specs.Text.{is_in}
use Rattle.multi_config.proofs.parts.is_among.Given as goal

abbrev pub invariant-loop-other : goal.invariant-loop-other
invariant-loop-other l = is_in l.text (take l.other-index l.texts) ≡ false
