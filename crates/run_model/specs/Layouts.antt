-- What is laid out for a task of a plan, from the outputs of the tasks that it needs.
use Rattle.std.specs.Prelude.{ℕ, List, Option}
use Rattle.std.specs.List.{filter_map, slice_get}
use Rattle.std.specs.Option.{option_map}
use Rattle.meta_model.specs.declared.plan.PlanTask.{PlanTask}
use Rattle.meta_model.specs.CleanBuild.{Entries, needed_of}
use Rattle.meta_model.specs.Layout.{Needed, layout}

-- the output of the task of a number, as a layout takes it
abbrev pub needed_at : List PlanTask → ℕ × Entries → Option Needed
needed_at tasks output = option_map (λ t. needed_of t output.1) (slice_get tasks output.0)

-- the outputs of tasks of these numbers, in their order
abbrev pub needed_among : List PlanTask → List (ℕ × Entries) → List Needed
needed_among tasks outputs = filter_map (needed_at tasks) outputs

-- the tree that is laid out for a task over these outputs
abbrev pub layout_over : List PlanTask → PlanTask → List (ℕ × Entries) → Entries
layout_over tasks task outputs = layout task.id.pn task.files (needed_among tasks outputs)
