use Rattle.std.proofs.Common.{◌≡◌, take, drop}
use Rattle.load_model.specs.Layers.{patterns}
use Rattle.meta_model.specs.Passing.{behind}
use Rattle.layer_conf.proofs.patterns.bad_pattern.Given as goal

abbrev pub invariant-loop-word : goal.invariant-loop-word
invariant-loop-word l = patterns l.words ≡ behind (take l.word-index l.words) (patterns (drop l.word-index l.words))
