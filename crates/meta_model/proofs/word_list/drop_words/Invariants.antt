use denote.Text.{Utf8}
use denote.Shadow.{shadow}
use Rattle.std.proofs.Common.{◌≡◌, ◌++◌, length}
use Rattle.meta_model.specs.Text.{drop_words}
use Rattle.meta_model.proofs.word_list.drop_words.Given as goal

abbrev pub invariant-loop-end : goal.invariant-loop-end
invariant-loop-end l = shadow (Utf8 l.rest) × (l.made ++ drop_words l.rest l.words ≡ drop_words l.value l.words)

abbrev pub decreases-loop-end : goal.decreases-loop-end
decreases-loop-end l = length l.rest
