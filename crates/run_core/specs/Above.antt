-- Which tasks need each task directly.
use Rattle.std.specs.Prelude.{◌≡◌, ℕ, ◌⊎◌, List, [], Contains, length, slice_index_or, slice_get, Some, ◌≤◌}
use Rattle.meta_model.specs.declared.plan.PlanTask.{PlanTask}
use Rattle.tale_model.specs.Need.{deps_of}

-- the tasks that are said to need a task directly
abbrev pub above_of : List (List ℕ) → ℕ → List ℕ
above_of above t = slice_index_or above t []

-- each task is said to be above those that it needs directly, and above no others
pub record IsAbove (tasks : List PlanTask) (above : List (List ℕ)) : Type 0 where
  pub said : (u t : ℕ) → Contains (deps_of tasks u) t → Contains (above_of above t) u
  pub only : (u t : ℕ) → Contains (above_of above t) u → Contains (deps_of tasks u) t

-- the task is put above these, and nothing else is new or gone
pub record PutAbove (old new : List (List ℕ)) (deps : List ℕ) (task : ℕ) : Type 0 where
  pub long : length new ≡ length old
  pub kept : (t u : ℕ) → Contains (above_of old t) u → Contains (above_of new t) u
  pub put : (t : ℕ) → Contains deps t → Contains (above_of new t) task
  pub only : (t u : ℕ) → Contains (above_of new t) u → Contains (above_of old t) u ⊎ ((u ≡ task) × Contains deps t)

-- a number stands in a list, at a place or behind it
abbrev pub IsListed : List ℕ → ℕ → ℕ → Type 0
IsListed listed head t = (k : ℕ) × (head ≤ k) × (slice_get listed k ≡ Some t)
