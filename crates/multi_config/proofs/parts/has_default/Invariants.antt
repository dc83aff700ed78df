use Rattle.std.proofs.Common.{◌≡◌, false, take}
use Rattle.std.specs.List.{list_any}
use Rattle.meta_model.specs.Text.{is_empty}
use Rattle.multi_config.specs.Names.{config_of}
use Rattle.multi_config.proofs.parts.has_default.Given as goal

abbrev pub invariant-loop-place : goal.invariant-loop-place
invariant-loop-place l = list_any (λ p. is_empty (config_of p)) (take l.place-index l.places) ≡ false
