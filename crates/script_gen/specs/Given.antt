-- The key that a script is made from.
use Rattle.std.specs.Prelude.{◌≡◌, ℕ, List, Ok}
use Rattle.meta_model.specs.declared.entry.EntryLine.{EntryLine}
use Rattle.meta_model.specs.declared.value.Key.{Key}
use Rattle.task_model.specs.Keys.{key}

-- This is the key of the task.
pub record IsKeyOf (store : List EntryLine) (task : List ℕ) (made : Key) : Type 0 where
  pub is : key store task ≡ Ok made
