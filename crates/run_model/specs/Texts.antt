-- The texts that the program prints.
use Rattle.std.specs.Prelude.{ℕ, zero, suc, List, [], ◌∷◌, ◌++◌, codes, flat_map, length, slice_get, if◌then◌else◌}
use Rattle.std.specs.Option.{option_map_or}
use Rattle.std.specs.Fmt.{decimal}
use Rattle.tree_model.specs.Hash.{hash_text}
use Rattle.tree_model.specs.declared.hash.Hash.{Hash}
use Rattle.meta_model.specs.declared.event.Status.{Status}
use Rattle.meta_model.specs.declared.event.Status.TheVariants.{Ok, TaskFailed, Usage, Metadata, DiskFault, BenchFault, ReadFault, WriteFault, Collision, Unsteady, Limit, OutOfMemory, MirrorFault}
use Rattle.meta_model.specs.declared.facts.RecipeFacts.{RecipeFacts}
use Rattle.meta_model.specs.declared.facts.TaskId.{TaskId}
use Rattle.meta_model.specs.declared.plan.Plan.{Plan}
use Rattle.meta_model.specs.declared.plan.PlanTask.{PlanTask}
use Rattle.meta_model.specs.declared.quoting.Quoting.TheVariants.{Print}
use Rattle.meta_model.specs.Quoting.{escaped}

-- the line of a name and its value
abbrev pub value_line : List ℕ × List ℕ → List ℕ
value_line pair = pair.0 ++ (codes "=\"" ++ (escaped Print pair.1 ++ codes "\"\n"))

-- The lines of names and their values, in their order (own rule; BitBake User Manual, "The bitbake Command", option `-e`).
abbrev pub env_text : List (List ℕ × List ℕ) → List ℕ
env_text rows = flat_map value_line rows

-- the line in front of the values of a target's recipe
abbrev pub recipe_line : List ℕ → List ℕ
recipe_line pn = codes "# " ++ (pn ++ codes "\n")

-- the line of a recipe's chosen version
abbrev pub version_line : RecipeFacts → List ℕ
version_line recipe = recipe.pn ++ (codes " " ++ (recipe.pv ++ (codes "-" ++ (recipe.pr ++ codes "\n"))))

-- The lines of the chosen versions, in the order of the recipes (own rule; "The bitbake Command", option `-s`).
abbrev pub versions_text : List RecipeFacts → List ℕ
versions_text recipes = flat_map version_line recipes

-- what is printed once so many recipe files were read ("The bitbake Command", option `-p`; the text is an own rule)
abbrev pub parsed_text : ℕ → List ℕ
parsed_text count = codes "parsed " ++ (decimal count ++ codes " recipes\n")

-- how a task is written
abbrev pub task_label : TaskId → List ℕ
task_label id = id.pn ++ (codes ":" ++ id.task)

-- the line of a task of which something was left out of what decides whether it has to run again
abbrev pub excluded_line : PlanTask → List ℕ
excluded_line task = if task.key.excluded then codes "excluded " ++ (task_label task.id ++ codes "\n") else []

-- how many tasks and threads there are
abbrev pub plan_line : ℕ → ℕ → List ℕ
plan_line tasks threads = codes "plan " ++ (decimal tasks ++ (codes " tasks, " ++ (decimal threads ++ codes " threads\n")))

-- The text of a plan: its first line, and the tasks of which something was left out, in the order of the plan (own rule).
abbrev pub plan_text : Plan → List ℕ
plan_text plan = plan_line (length plan.tasks) plan.threads ++ flat_map excluded_line plan.tasks

-- the task with a number, behind a blank
abbrev pub need_text : List PlanTask → ℕ → List ℕ
need_text tasks n = codes " " ++ option_map_or (λ task. task_label task.id) (slice_get tasks n) []

-- what a task needs directly
abbrev pub needs_text : List PlanTask → List ℕ → List ℕ
needs_text tasks [] = []
needs_text tasks (first ∷ deps) = codes " needs" ++ flat_map (need_text tasks) (first ∷ deps)

abbrev pub task_line : List PlanTask → PlanTask → List ℕ
task_line tasks task = codes "task " ++ (task_label task.id ++ (needs_text tasks task.deps ++ codes "\n"))

-- The text of a dry run: the plan, and each task with those that it needs directly, all in the order of the plan (own rule; BitBake
-- User Manual, "The bitbake Command", option `-n`).
abbrev pub dry_text : Plan → List ℕ
dry_text plan = plan_text plan ++ flat_map (task_line plan.tasks) plan.tasks

-- where a fault of metadata stands: a file and a line, a file alone, or nothing
abbrev pub place_text : List ℕ → ℕ → List ℕ
place_text [] line = []
place_text (c ∷ file) zero = (c ∷ file) ++ codes ": "
place_text (c ∷ file) (suc line) = (c ∷ file) ++ (codes ":" ++ (decimal (suc line) ++ codes ": "))

-- each text behind one blank
abbrev pub behind_blanks : List (List ℕ) → List ℕ
behind_blanks texts = flat_map (λ text. codes " " ++ text) texts

-- the line of a fault of metadata
abbrev pub metadata_line : List ℕ → ℕ → List ℕ → List (List ℕ) → List ℕ
metadata_line file line kind detail = codes "fault 3 " ++ (place_text file line ++ (kind ++ (behind_blanks detail ++ codes "\n")))

abbrev pub usage_text : List ℕ
usage_text = codes "usage: bitbake [-c TASK] [-f] [-k] [-n] [-e] [-s] [-p] [--no-setscene] [--sample N] [--clean N] [TARGET..]\n"

-- two signatures have this name
abbrev pub collision_line : Hash → List ℕ
collision_line name = codes "fault 8 collision " ++ (hash_text name ++ codes "\n")

-- a task gave another output than before
abbrev pub unsteady_line : List ℕ → List ℕ → List ℕ
unsteady_line pn task = codes "fault 9 unsteady " ++ (pn ++ (codes ":" ++ (task ++ codes "\n")))

-- a limit was passed
abbrev pub limit_line : List ℕ → List ℕ
limit_line kind = codes "fault 10 " ++ (kind ++ codes "\n")

-- The last line of a status that isn't Ok or TaskFailed; a failed sink is told nothing (own rule).
abbrev pub fault_text : Status → List ℕ
fault_text Ok = []
fault_text TaskFailed = []
fault_text Usage = usage_text
fault_text (Metadata file line kind detail) = metadata_line file line kind detail
fault_text DiskFault = codes "fault 4 disk\n"
fault_text BenchFault = codes "fault 5 bench\n"
fault_text ReadFault = codes "fault 6 read\n"
fault_text WriteFault = []
fault_text (Collision name held given) = collision_line name
fault_text (Unsteady pn task held given) = unsteady_line pn task
fault_text (Limit kind) = limit_line kind
fault_text OutOfMemory = codes "fault 11 memory\n"
fault_text MirrorFault = codes "fault 12 mirror\n"
