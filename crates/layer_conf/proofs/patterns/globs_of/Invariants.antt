use Rattle.std.proofs.Common.{◌≡◌, take, filter_map}
use Rattle.load_model.specs.Paths.{path_named}
use Rattle.layer_conf.proofs.patterns.globs_of.Given as goal

abbrev pub invariant-loop-word : goal.invariant-loop-word
invariant-loop-word l = l.made.items ≡ filter_map path_named (take l.word-index l.words)
