-- What the clean build has of a task.
use Rattle.std.specs.Prelude.{◌≡◌, ℕ, List, Some, Ok, Result}
use Rattle.std.specs.List.{slice_get, AllByRecursion}
use Rattle.meta_model.specs.declared.plan.PlanTask.{PlanTask}
use Rattle.meta_model.specs.CleanBuild.{Built, Entries, Gives, Lack, clean_build}

-- the clean build has this of the task of a number
abbrev pub Has : Gives → List PlanTask → ℕ → Result Entries Lack → Type 0
Has gives tasks n outcome = (built : Built) × (slice_get (clean_build gives tasks) n ≡ Some built) × (built.outcome ≡ outcome)

-- these are the clean outputs of the tasks of their numbers
abbrev pub AreClean : Gives → List PlanTask → List (ℕ × Entries) → Type 0
AreClean gives tasks outputs = AllByRecursion (λ o. Has gives tasks o.0 (Ok o.1)) outputs
