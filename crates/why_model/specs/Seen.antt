-- Which tasks of a plan have names that no run changes, and what the others wait for. (Own rules.)
use Rattle.std.specs.Prelude.{ℕ, Bool, not, false, ◌&&◌, List, [], ◌∷◌, ◌++◌, map, filter, if◌then◌else◌}
use Rattle.std.specs.List.{list_all, slice_index_or}
use Rattle.std.specs.Option.{is_some}
use Rattle.meta_model.specs.declared.plan.Plan.{Plan}
use Rattle.meta_model.specs.declared.plan.PlanTask.{PlanTask}
use Rattle.store_model.specs.declared.signature.EquivRow.{EquivRow}
use Rattle.store_model.specs.Rows.{row_at}
use Rattle.store_model.specs.Signatures.{Signed, signatures}
use Rattle.store_model.specs.Spelling.{name_of}

-- whether the task of a number is one of the seen ones
abbrev pub is_seen : List Bool → ℕ → Bool
is_seen seen n = slice_index_or seen n false

-- whether a task is seen, for those before it
abbrev pub seen_next : List EquivRow → List Bool → Signed → Bool
seen_next rows before s = list_all (is_seen before) s.task.deps && is_some (row_at rows (name_of s.sig))

abbrev pub seen_from : List EquivRow → List Bool → List Signed → List Bool
seen_from rows before [] = before
seen_from rows before (s ∷ more) = seen_from rows (before ++ seen_next rows before s ∷ []) more

-- A task is seen where a row has its name, and each task that it needs directly is seen. So it is known under which name a task names it that
-- needs it: the unihash of a name that has a row stays, whatever is recorded behind it. A task all of whose needed tasks are seen has the name
-- that it will have.
abbrev pub seen_over : List EquivRow → List PlanTask → List Bool
seen_over rows tasks = seen_from rows [] (signatures rows tasks)

-- What a task waits for: the tasks that it needs directly and that aren't seen. One that runs in each run that needs it waits for nothing.
abbrev pub waits_of : List Bool → PlanTask → List ℕ
waits_of seen task = if task.nostamp then [] else filter (λ d. not (is_seen seen d)) task.deps

-- what it waits for, where it waits; else all that it needs
abbrev pub firm : List ℕ → List ℕ → List ℕ
firm deps [] = deps
firm deps (n ∷ waits) = n ∷ waits

abbrev pub narrowed_task : List Bool → PlanTask → PlanTask
narrowed_task seen task = record task { deps = firm task.deps (waits_of seen task) }

-- The plan in which a task that waits needs no more than what it waits for. What a run needs in it is needed in any case: that a task runs which
-- waits isn't known before.
abbrev pub narrowed : List Bool → Plan → Plan
narrowed seen plan = record plan { tasks = map (narrowed_task seen) plan.tasks }
