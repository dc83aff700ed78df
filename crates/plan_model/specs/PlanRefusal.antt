-- Why a graph has no plan.
use Rattle.std.specs.Prelude.{ℕ, List}
use Rattle.meta_model.specs.Refusal.{Refusal}
use Rattle.task_model.specs.TaskRefusal.{TaskRefusal}
use Rattle.task_model.specs.TaskRefusal as task

-- The causes, the first three at the file of a recipe (own rules): a word of a flag can't be used; a text isn't expanded; a word of
-- `[file-checksums]` names no file; a file that it names has more than 16,777,216 bytes; the plan is beyond one of its limits.
pub data PlanRefusal : Type 0 where
  bad_flag : (file flag word : List ℕ) → PlanRefusal
  no_value : (file : List ℕ) → Refusal → PlanRefusal
  missing_file : (file word : List ℕ) → PlanRefusal
  input_bytes : (path : List ℕ) → PlanRefusal
  plan_bytes : PlanRefusal

-- a refusal of a task's script or places, at the file of its recipe
abbrev pub told_at : List ℕ → TaskRefusal → PlanRefusal
told_at file (task.bad_flag flag word) = bad_flag file flag word
told_at file (task.no_value refusal) = no_value file refusal
