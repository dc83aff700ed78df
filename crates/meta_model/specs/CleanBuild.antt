-- What a clean build gives: all tasks run in order from nothing, each over what the earlier ones gave. (Own rule.)
use Rattle.std.specs.Prelude.{ℕ, Bool, List, [], ◌∷◌, ◌++◌, Result, Ok, Err, ◌&&◌, ◌||◌, nat_lt, length, map, if◌then◌else◌}
use Rattle.std.specs.List.{list_any, filter_map, slice_get}
use Rattle.tree_model.specs.declared.entry.Entry.{Entry}
use Rattle.tree_model.specs.declared.tree.Size.{Size}
use Rattle.tree_model.specs.Size.{size_of}
use Rattle.tree_model.specs.Folder.{picked, placed, renamed}
use Rattle.meta_model.specs.declared.event.Why.{Why}
use Rattle.meta_model.specs.declared.event.Why.TheVariants as why
use Rattle.meta_model.specs.declared.plan.PlanTask.{PlanTask}
use Rattle.meta_model.specs.Layout as laid
pub use Rattle.tree_model.specs.Entries.{Entries, Gives}

-- the most entries of an output, the most bytes of one of them, and of all together
abbrev pub output_limit : Size
output_limit = record { entries = 16384; largest = 16777216; bytes = 33554432 }

-- whether one of the three numbers is above that of the limit
abbrev pub exceeds : Size → Size → Bool
exceeds size limit = nat_lt limit.entries size.entries || (nat_lt limit.largest size.largest || nat_lt limit.bytes size.bytes)

-- whether a path has more than 3,072 bytes
abbrev pub is_long : List ℕ × Entry → Bool
is_long e = nat_lt 3072 (length e.0)

-- whether a tree is beyond the limits of an output
unfoldable pub is_beyond : Entries → Bool
is_beyond tree = exceeds (size_of tree) output_limit || list_any is_long tree

-- a tree beyond the limits is a failure
abbrev pub limited : Result Entries ℕ → Result Entries Why
limited (Err code) = Err (why.Status code)
limited (Ok tree) = if is_beyond tree then Err why.TooLarge else Ok tree

-- What a task whose whole work tree is its output gives, for what its script makes of a tree, its script and its layout: a
-- tree, or why it fails.
abbrev pub clean_output : Gives → List ℕ → Entries → Result Entries Why
clean_output gives script layout = limited (gives script layout)

-- the most entries of a layout, and the most bytes of all together; one of them has no limit of its own
abbrev pub layout_limit : Size
layout_limit = record { entries = 65536; largest = 67108864; bytes = 67108864 }

-- whether a tree is beyond the limits of a layout
unfoldable pub is_beyond_layout : Entries → Bool
is_beyond_layout tree = exceeds (size_of tree) layout_limit

-- What stands under a folder of the work tree, under the folder of the output to which it goes. The folder `.` is the
-- whole tree.
abbrev pub part_at : Entries → List ℕ × List ℕ → Entries
part_at tree place = renamed (placed place.1) (picked place.0 tree)

-- The output of a work tree: of a task that is kept as a shared state object and names pairs of folders, their parts, each
-- laid over those before it; of any other task the whole tree.
abbrev pub given : Bool → List (List ℕ × List ℕ) → Entries → Entries
given sstate [] tree = tree
given sstate (place ∷ places) tree = if sstate then laid.overlaid_all (map (part_at tree) (place ∷ places)) else tree

-- whether a part of the output has a path of more than 3,072 bytes, be it that a later part covers it
abbrev pub has_long_part : Bool → List (List ℕ × List ℕ) → Entries → Bool
has_long_part sstate places tree = list_any (λ place. list_any is_long (part_at tree place)) places && sstate

-- the output of what a script gave, where neither of the two is beyond the limits, and no part has too long a path
abbrev pub output_of : Bool → List (List ℕ × List ℕ) → Result Entries Why → Result Entries Why
output_of sstate places (Err cause) = Err cause
output_of sstate places (Ok tree) = if has_long_part sstate places tree then Err why.TooLarge else limited (Ok (given sstate places tree))

-- What a task gives over its layout: its output, or why it fails.
abbrev pub task_output : Gives → List ℕ → Bool → List (List ℕ × List ℕ) → Entries → Result Entries Why
task_output gives script sstate places layout = if is_beyond_layout layout then Err why.TooLarge else output_of sstate places (clean_output gives script layout)

-- Why a clean build has no output of a task: it failed by itself, or a task that it needs has none.
pub data Lack : Type 0 where
  fails : (cause : Why) → Lack
  waits : Lack

-- a task of a plan, and what the clean build has of it
pub record Built : Type 0 where
  pub task : PlanTask
  pub outcome : Result Entries Lack

-- the output of a needed task
abbrev pub needed_of : PlanTask → Entries → laid.Needed
needed_of task output = record { pn = task.id.pn; task = task.id.task; depth = task.depth; output = output }

abbrev pub with_output : PlanTask → Result Entries Lack → Result (List laid.Needed) Lack → Result (List laid.Needed) Lack
with_output task (Ok output) (Ok needed) = Ok (needed_of task output ∷ needed)
with_output task (Ok output) (Err lack) = Err waits
with_output task (Err lack) needed = Err waits

-- the outputs of all needed tasks; there are none where one lacks its own
abbrev pub outputs_of : List Built → Result (List laid.Needed) Lack
outputs_of [] = Ok []
outputs_of (built ∷ more) = with_output built.task built.outcome (outputs_of more)

abbrev pub by_itself : Result Entries Why → Result Entries Lack
by_itself (Ok tree) = Ok tree
by_itself (Err cause) = Err (fails cause)

-- the task over the outputs of those that it needs
abbrev pub built_over : Gives → PlanTask → Result (List laid.Needed) Lack → Result Entries Lack
built_over gives task (Err lack) = Err waits
built_over gives task (Ok needed) = by_itself (task_output gives task.script task.sstate task.places (laid.layout task.id.pn task.files needed))

-- What the clean build has of a task, where these are built before it. The numbers of the tasks that it needs are their
-- places among them.
abbrev pub clean_task : Gives → List Built → PlanTask → Result Entries Lack
clean_task gives before task = built_over gives task (outputs_of (filter_map (slice_get before) task.deps))

abbrev pub clean_from : Gives → List Built → List PlanTask → List Built
clean_from gives before [] = before
clean_from gives before (task ∷ more) = clean_from gives (before ++ record { task = task; outcome = clean_task gives before task } ∷ []) more

-- The clean build of a plan's tasks, one after the other.
abbrev pub clean_build : Gives → List PlanTask → List Built
clean_build gives tasks = clean_from gives [] tasks
