-- Names of tasks, and the tasks of a part of `addtask`.
use Rattle.std.specs.Prelude.{ℕ, Bool, not, ◌&&◌, List, Option, length, nat_le}
use Rattle.meta_model.specs.Text.{is_shell_name, is_empty}
use Rattle.meta_model.specs.Grammar.{◌>>=◌, where_true, tasks, part, up_to_part}

-- a shell name of at most 255 bytes
abbrev pub is_task_name : List ℕ → Bool
is_task_name t = is_shell_name t && nat_le (length t) 255

-- the tasks of the part that this word begins
abbrev pub tasks_in_part : List ℕ → List (List ℕ) → Option (List (List ℕ))
tasks_in_part word ws = part word ws >>= tasks

-- the tasks in front of the parts, of which there is one at least
abbrev pub first_tasks : List (List ℕ) → Option (List (List ℕ))
first_tasks ws = where_true (not (is_empty (up_to_part ws))) (up_to_part ws) >>= tasks
