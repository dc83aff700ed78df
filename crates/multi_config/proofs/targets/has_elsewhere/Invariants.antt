use Rattle.std.proofs.Common.{◌≡◌, false, take}
use Rattle.std.specs.List.{list_any}
use Rattle.answer_model.specs.Targets.{is_elsewhere}
use Rattle.multi_config.proofs.targets.has_elsewhere.Given as goal

abbrev pub invariant-loop-word : goal.invariant-loop-word
invariant-loop-word l = list_any is_elsewhere (take l.word-index l.words) ≡ false
