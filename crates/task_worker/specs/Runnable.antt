-- Plans that can be run.
use Rattle.std.specs.Prelude.{◌≡◌, ◌<◌, ◌≤◌, ℕ, true, length, All, Some}
use Rattle.std.specs.List.{slice_get}
use Rattle.meta_model.specs.declared.plan.Plan.{Plan}
use Rattle.meta_model.specs.declared.plan.PlanTask.{PlanTask}
use Rattle.load_model.specs.Recipes.{is_pn}
use Rattle.plan_model.specs.Names.{is_task_name}
use Rattle.plan_model.specs.Sound.{IsOnePart, IsSound}

-- What is asked of a task at its number so that it can be run: its PN and its name are such as recipes and tasks may have, it needs
-- earlier tasks alone, and its files stand at paths of one part.
pub record IsRunnableTask (n : ℕ) (task : PlanTask) : Type 0 where
  pub pn : is_pn task.id.pn ≡ true
  pub name : is_task_name task.id.task ≡ true
  pub below : All (λ d. d < n) task.deps
  pub parts : All (λ e. IsOnePart e.0) task.files

-- A plan can be run: it has at most 65,536 tasks, and each of them can be.
pub record IsRunnable (plan : Plan) : Type 0 where
  pub few : length plan.tasks ≤ 65536
  pub tasks : (n : ℕ) (task : PlanTask) → slice_get plan.tasks n ≡ Some task → IsRunnableTask n task

-- A sound plan can be run.
abbrev pub SoundIsRunnable : Type 0
SoundIsRunnable = (plan : Plan) → IsSound plan → IsRunnable plan
