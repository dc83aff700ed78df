use Rattle.std.proofs.Common.{◌≡◌, ◌++◌, take}
use Rattle.bb_parser.specs.Written.{words_text}
use Rattle.bb_parser.proofs.lines_written.push_words.Given as goal

-- the words so far are written
abbrev pub invariant-loop-word : goal.invariant-loop-word
invariant-loop-word l = l.line ≡ l.initial.line ++ words_text (take l.word-index l.words)
