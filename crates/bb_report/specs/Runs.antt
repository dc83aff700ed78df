-- The last line of a run, as the code makes it.
use Rattle.std.specs.Prelude.{◌≡◌, ◌<◌, ℕ, length, Some, Bool, List, [], ◌∷◌, ◌++◌, codes, slice_get, if◌then◌else◌}
use Rattle.meta_model.specs.declared.event.Logged.{Logged}
use Rattle.meta_model.specs.declared.plan.Plan.{Plan}
use Rattle.meta_model.specs.declared.plan.PlanTask.{PlanTask}
use Rattle.run_model.specs.Texts.{task_label}
use Rattle.run_model.specs.Report.{has_failure, has_failed, ok_line, failed_line}

-- the last line of a run that no fault ended
abbrev pub end_text : Plan → List Logged → List ℕ
end_text plan tale = if has_failure tale then failed_line plan.tasks tale else ok_line tale

-- which of so many tasks failed in a tale
pub record AreMarks (tale : List Logged) (count : ℕ) (marks : List Bool) : Type 0 where
  pub many : length marks ≡ count
  pub each : (n : ℕ) → n < count → slice_get marks n ≡ Some (has_failed tale n)

-- a text behind a comma and a blank, where it isn't the first
abbrev pub behind_comma : Bool → List ℕ → List ℕ
behind_comma is_later text = if is_later then codes ", " ++ text else text

-- a marked text so
abbrev pub name_text : Bool → Bool → List ℕ → List ℕ
name_text mark is_later text = if mark then behind_comma is_later text else []

-- the marked ones of tasks
abbrev pub marked : List PlanTask → List Bool → List (List ℕ)
marked [] marks = []
marked (task ∷ tasks) [] = []
marked (task ∷ tasks) (mark ∷ marks) = if mark then task_label task.id ∷ marked tasks marks else marked tasks marks
