-- How words are refused.
use Rattle.std.specs.Prelude.{Bool, true, false}
use Rattle.meta_model.specs.declared.event.Status.{Status}
use Rattle.meta_model.specs.declared.event.Status.TheVariants as status

-- the statuses of words that are refused: no reading, want of memory
abbrev pub is_words_refusal : Status → Bool
is_words_refusal status.Usage = true
is_words_refusal status.OutOfMemory = true
is_words_refusal _ = false
