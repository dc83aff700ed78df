use Rattle.std.proofs.Common.{◌≡◌, drop}
use Rattle.meta_model.specs.Passing.{behind}
use Rattle.answer_model.specs.RunAsked as asked
use Rattle.target_graph.proofs.targets.targets_of.Given as goal

-- the targets so far, and what is left of the words
abbrev pub invariant-loop-word : goal.invariant-loop-word
invariant-loop-word l = asked.targets_of l.default l.words ≡ behind l.made (asked.targets_of l.default (drop l.word-index l.words))
