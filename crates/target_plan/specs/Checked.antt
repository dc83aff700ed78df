-- What is checked of a plan before it is handed out.
use Rattle.std.specs.Prelude.{◌≡◌, ◌≤◌, ◌<◌, ◌⊎◌, ℕ, true, false, List, length, All, Some, codes}
use Rattle.std.specs.List.{slice_get}
use Rattle.std.specs.List.Sorted.{IsStrictlyIncreasing}
use Rattle.tree_model.specs.declared.entry.Entry.{Entry}
use Rattle.tree_model.specs.Tree.{IsTree}
use Rattle.meta_model.specs.declared.event.Status.{Status}
use Rattle.meta_model.specs.declared.event.Status.TheVariants.{Limit, OutOfMemory}
use Rattle.meta_model.specs.declared.facts.TaskId.{TaskId}
use Rattle.meta_model.specs.declared.plan.Plan.{Plan}
use Rattle.meta_model.specs.declared.plan.PlanTask.{PlanTask}
use Rattle.meta_model.specs.declared.value.KeyLine.{KeyLine}
use Rattle.load_model.specs.Recipes.{is_pn}
use Rattle.store_model.specs.Signatures.{is_order, line_cmp}
use Rattle.store_model.specs.Spelled.{Ascends}
use Rattle.store_model.specs.Valid.{IsPlain}
use Rattle.plan_model.specs.Names.{is_task_name}
use Rattle.plan_model.specs.Sound.{IsFolder, IsOnePart, IsSound}

-- a PN and a name such as recipes and tasks may have
pub record HasGoodNames (id : TaskId) : Type 0 where
  pub pn : is_pn id.pn ≡ true
  pub name : is_task_name id.task ≡ true

-- numbers that ascend strictly, all below this one
pub record AreEarlier (n : ℕ) (numbers : List ℕ) : Type 0 where
  pub rising : IsStrictlyIncreasing numbers
  pub below : All (λ d. d < n) numbers

-- the lines of a key: they ascend strictly by name, and none has the name of the order line
pub record AreSoundLines (lines : List KeyLine) : Type 0 where
  pub ascends : Ascends line_cmp lines
  pub no_order : All (λ l. is_order l ≡ false) lines

-- the input files of a task: plain, at paths of one part
pub record AreSoundFiles (files : List (List ℕ × Entry)) : Type 0 where
  pub plain : All IsPlain files
  pub parts : All (λ e. IsOnePart e.0) files
  pub tree : IsTree files

-- pairs of folders
pub record AreFolders (places : List (List ℕ × List ℕ)) : Type 0 where
  pub inner : All (λ p. IsFolder p.0) places
  pub outer : All (λ p. IsFolder p.1) places

-- What is checked of a task at its number: what is asked of a task of a sound plan.
pub record IsChecked (n : ℕ) (task : PlanTask) : Type 0 where
  pub names : HasGoodNames task.id
  pub deps : AreEarlier n task.deps
  pub lines : AreSoundLines task.key.lines
  pub files : AreSoundFiles task.files
  pub places : AreFolders task.places

-- each task is such
abbrev pub AreChecked : List PlanTask → Type 0
AreChecked tasks = (n : ℕ) (task : PlanTask) → slice_get tasks n ≡ Some task → IsChecked n task

-- a plan of 1 to 16 threads, of at most 65,536 tasks, and of targets among them
pub record IsInRange (plan : Plan) : Type 0 where
  pub least : 1 ≤ plan.threads
  pub most : plan.threads ≤ 16
  pub few : length plan.tasks ≤ 65536
  pub targets : All (λ n. n < length plan.tasks) plan.targets

-- the status of a plan that isn't sound
abbrev pub unsound_plan : Status
unsound_plan = Limit (codes "UnsoundPlan")

-- why a plan isn't handed out: memory ran out, or it isn't sound
abbrev pub IsTurnedBack : Plan → Status → Type 0
IsTurnedBack plan status = (status ≡ OutOfMemory) ⊎ ((IsSound plan → ⊥) × (status ≡ unsound_plan))
