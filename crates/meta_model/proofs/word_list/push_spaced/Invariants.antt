use Rattle.std.proofs.Common.{◌≡◌, ◌∷◌, ◌++◌, flat_map, drop}
use Rattle.meta_model.specs.Text.{space}
use Rattle.meta_model.proofs.word_list.push_spaced.Given as goal

abbrev pub invariant-loop-word : goal.invariant-loop-word
invariant-loop-word l = l.text ++ flat_map (λ w. space ∷ w) (drop l.word-index l.words) ≡ l.initial.text ++ flat_map (λ w. space ∷ w) l.words
