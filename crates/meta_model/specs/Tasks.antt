-- The tasks that entries add and take away.
use Rattle.std.specs.Prelude.{ℕ, Bool, false, not, ◌||◌, ◌&&◌, List, map, filter, filter_map, fold, Option, Some, None, bytes_eq}
use Rattle.meta_model.specs.declared.entry.EntryLine.{EntryLine}
use Rattle.meta_model.specs.declared.entry.EntryLine.TheVariants.{Task, NoTask}
use Rattle.meta_model.specs.Text.{is_in, in_byte_order}

-- `addtask` adds a task, and `deltask` takes it away (BitBake User Manual, "Syntax and Operators", sections "Promoting a
-- Function to a Task" and "Deleting a Task").
abbrev pub is_task_after : List ℕ → Bool → EntryLine → Bool
is_task_after name there (Task t after before) = bytes_eq t name || there
is_task_after name there (NoTask t) = not (bytes_eq t name) && there
is_task_after name there _ = there

abbrev pub is_task : List EntryLine → List ℕ → Bool
is_task list name = fold (is_task_after name) false list

-- `addtask t after b` lets t come after b, and `addtask t before a` lets a come after t, also where the other task is not
-- there yet. `deltask` takes away every such order so far that has the task (own rule).
abbrev pub comes_after_line : List ℕ → List ℕ → Bool → EntryLine → Bool
comes_after_line a b there (Task t after before) = there || ((bytes_eq t a && is_in b after) || (bytes_eq t b && is_in a before))
comes_after_line a b there (NoTask t) = there && not (bytes_eq t a || bytes_eq t b)
comes_after_line a b there _ = there

abbrev pub comes_after : List EntryLine → List ℕ → List ℕ → Bool
comes_after list a b = fold (comes_after_line a b) false list

abbrev pub task_in : EntryLine → Option (List ℕ)
task_in (Task t after before) = Some t
task_in _ = None

-- the names of the tasks, in byte order
abbrev pub task_names : List EntryLine → List (List ℕ)
task_names list = in_byte_order (filter (is_task list) (filter_map task_in list))

-- The tasks in byte order, each with the tasks that it comes after, in byte order. An order with a task that is not there at
-- the end is ignored (own rule).
abbrev pub tasks : List EntryLine → List (List ℕ × List (List ℕ))
tasks list = let all = task_names list in map (λ t. (t, filter (comes_after list t) all)) all
