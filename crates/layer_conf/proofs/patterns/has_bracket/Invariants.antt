use Rattle.std.proofs.Common.{◌≡◌, ◌==◌, false, take}
use Rattle.std.specs.List.{list_any}
use Rattle.meta_model.specs.Text.{open_bracket}
use Rattle.layer_conf.proofs.patterns.has_bracket.Given as goal

abbrev pub invariant-loop-byte : goal.invariant-loop-byte
invariant-loop-byte l = list_any (λ c. c == open_bracket) (take l.byte-index l.byte-items) ≡ false
