use Rattle.std.proofs.Common.{◌≡◌, drop}
use Rattle.multi_config.specs.Words.{places_of}
use Rattle.multi_config.proofs.Loops.{behind}
use Rattle.multi_config.proofs.places.places_of.Given as goal

-- the places so far, and what is left of the words
abbrev pub invariant-loop-word : goal.invariant-loop-word
invariant-loop-word l = places_of l.configs l.words ≡ behind l.made.items (places_of l.configs (drop l.word-index l.words))
