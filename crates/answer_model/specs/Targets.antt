-- The targets that words name.
use Rattle.std.specs.Prelude.{ℕ, Bool, List, Option, Some, None, codes}
use Rattle.std.specs.Option.{option_map_or}
use Rattle.meta_model.specs.declared.facts.Target.{Target}
use Rattle.meta_model.specs.Text.{colon, begins_with, split_at_first}
use Rattle.meta_model.specs.Grammar.{task_of}

-- a word that is cut at a colon names a task, and else the default one is meant
abbrev pub target_of_cut : List ℕ → List ℕ → Option (List ℕ × List ℕ) → Target
target_of_cut default word None = record { name = word; task = task_of default }
target_of_cut default word (Some cut) = record { name = cut.0; task = task_of cut.1 }

-- The target of a word NAME or NAME:TASK (BitBake User Manual, "The BitBake Command", option `-c`; that `do_` is put before every
-- task that a word names is an own rule), which is cut at its first colon. With nothing behind the colon the task is `do_` (own
-- rule).
abbrev pub target_of : List ℕ → List ℕ → Target
target_of default word = target_of_cut default word (split_at_first colon word)

-- A word that begins with `mc:` asks for another configuration (BitBake User Manual, "The BitBake Command", section "Executing a Multiple
-- Configuration Build").
abbrev pub is_elsewhere : List ℕ → Bool
is_elsewhere word = begins_with (codes "mc:") word

-- the name of a target: what stands before its first colon, or the whole word
abbrev pub target_name : List ℕ → List ℕ
target_name word = option_map_or (λ cut. cut.0) (split_at_first colon word) word
