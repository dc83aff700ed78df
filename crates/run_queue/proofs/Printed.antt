-- A text is printed behind another one, as long as the sink takes it.
use Rattle.std.proofs.Common.{◌≡◌, ◌++◌, ◌∙◌, ap, ℕ, List, append_assoc}
use Rattle.run_model.specs.Written.{WritesFront}
use Rattle.run_queue.specs.Keeps.{IsFront}

-- what stood in front stands there once more was written
pub front_all : (front old new text : List ℕ) → new ≡ old ++ text → IsFront front old → IsFront front new
front_all front old new text more is = record { rest = is.rest ++ text; is = more ∙ ap (λ (l : List ℕ). l ++ text) is.is ∙ append_assoc front is.rest text }

pub front_some : (front old new text : List ℕ) → WritesFront old new text → IsFront front old → IsFront front new
front_some front old new text some is = front_all front old new some.front some.written is
