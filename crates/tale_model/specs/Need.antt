-- Which tasks of a plan a run needs, given which outputs are there already.
use Rattle.std.specs.Prelude.{◌≡◌, ℕ, Bool, true, List, [], All, length, slice_get, Option, Some, None}
use Rattle.meta_model.specs.declared.event.Avail.{Avail}
use Rattle.meta_model.specs.declared.event.Avail.TheVariants.{Missing}
use Rattle.meta_model.specs.declared.plan.Plan.{Plan}
use Rattle.meta_model.specs.declared.plan.PlanTask.{PlanTask}

-- the tasks that a task needs directly; past all tasks there are none
abbrev pub deps_in : Option PlanTask → List ℕ
deps_in None = []
deps_in (Some task) = task.deps

abbrev pub deps_of : List PlanTask → ℕ → List ℕ
deps_of tasks t = deps_in (slice_get tasks t)

-- a task belongs to a set, which is a flag for each task
abbrev pub IsIn : List Bool → ℕ → Type 0
IsIn set t = slice_get set t ≡ Some true

-- with each member whose output is missing a set has the tasks that it needs directly
abbrev pub HasDependencies : List PlanTask → List Avail → List Bool → Type 0
HasDependencies tasks avail set = (t : ℕ) → IsIn set t → slice_get avail t ≡ Some Missing → All (IsIn set) (deps_of tasks t)

-- The set has the targets, the tasks that run whenever they are needed, and with each member whose output is missing the
-- tasks that it needs directly.
pub record IsClosed (plan : Plan) (avail : List Avail) (set : List Bool) : Type 0 where
  pub targets : All (IsIn set) plan.targets
  pub nostamp : (t : ℕ) (task : PlanTask) → slice_get plan.tasks t ≡ Some task → task.nostamp ≡ true → IsIn set t
  pub dependencies : HasDependencies plan.tasks avail set

-- What is needed is the least such set.
pub record IsNeed (plan : Plan) (avail : List Avail) (need : List Bool) : Type 0 where
  pub long : length need ≡ length plan.tasks
  pub closed : IsClosed plan avail need
  pub least : (other : List Bool) → IsClosed plan avail other → (t : ℕ) → IsIn need t → IsIn other t
