-- What names have for a task.
use Rattle.std.specs.Prelude.{ℕ, List, Option, Some, None}
use Rattle.meta_model.specs.declared.entry.EntryLine.{EntryLine}
use Rattle.meta_model.specs.Expansion.{Find}
use Rattle.meta_model.specs.Active.{find_in}
use Rattle.task_model.specs.Views.{seen_by}

-- what names have, where the name of this task counts as absent if it is bare
abbrev pub seen_with : List EntryLine → Option (List ℕ) → Find
seen_with store None = find_in store
seen_with store (Some task) = seen_by task (find_in store)
