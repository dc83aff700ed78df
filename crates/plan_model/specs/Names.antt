-- Names of tasks in statements and entries, and sources whose names are good.
use Rattle.std.specs.Prelude.{◌≡◌, ◌&&◌, ℕ, Bool, true, List, length, nat_le, Some, Ok, codes}
use Rattle.std.specs.List.{AllByRecursion}
use Rattle.meta_model.specs.declared.line.Kind.{Kind}
use Rattle.meta_model.specs.declared.entry.EntryLine.{EntryLine}
use Rattle.meta_model.specs.declared.entry.EntryLine.TheVariants.{Task}
use Rattle.meta_model.specs.declared.statement.Statement.{Statement}
use Rattle.meta_model.specs.declared.statement.Statement.TheVariants.{AddTask}
use Rattle.meta_model.specs.Text.{begins_with, is_shell_name}
use Rattle.load_model.specs.Loading.{Sources}

-- A task's name, as `addtask` allows it: a shell name of at most 255 bytes that begins with `do_` (own rule).
abbrev pub is_task_name : List ℕ → Bool
is_task_name name = begins_with (codes "do_") name && (is_shell_name name && nat_le (length name) 255)

-- a statement that adds tasks adds such alone
abbrev pub AddsGoodTasks : Statement → Type 0
AddsGoodTasks (AddTask names after before) = AllByRecursion (λ n. is_task_name n ≡ true) names
AddsGoodTasks _ = Unit {0}

-- an entry that adds a task adds such a one
abbrev pub AddsGoodTask : EntryLine → Type 0
AddsGoodTask (Task task after before) = is_task_name task ≡ true
AddsGoodTask _ = Unit {0}

-- entries add such tasks alone
pub record HaveGoodTasks (lines : List EntryLine) : Type 0 where
  pub each : AllByRecursion AddsGoodTask lines

-- files add such tasks alone
abbrev pub AddGoodTasks : Sources → Type 0
AddGoodTasks sources = (path : List ℕ) (kind : Kind) (list : List (ℕ × Statement)) → sources path kind ≡ Some (Ok list) → AllByRecursion (λ s. AddsGoodTasks s.1) list
