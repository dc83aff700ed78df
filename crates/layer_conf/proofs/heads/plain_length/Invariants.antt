use Rattle.std.proofs.Common.{◌≡◌, false, take}
use Rattle.std.specs.List.{list_any}
use Rattle.layer_conf.specs.Globs.{is_wild}
use Rattle.layer_conf.proofs.heads.plain_length.Given as goal

abbrev pub invariant-loop-i : goal.invariant-loop-i
invariant-loop-i l = list_any is_wild (take l.i l.pattern) ≡ false
