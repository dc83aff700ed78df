use Rattle.std.proofs.Common.{◌≡◌, ◌++◌, filter, drop}
use Rattle.meta_model.specs.Text.{is_in, words}
use Rattle.meta_model.proofs.word_list.words_in.Given as goal

abbrev pub invariant-loop-word : goal.invariant-loop-word
invariant-loop-word l = l.made ++ filter (λ w. is_in w (words l.text)) (drop l.word-index l.wanted) ≡ filter (λ w. is_in w (words l.text)) l.wanted
