-- Failures that the clean build says.
use Rattle.std.specs.Prelude.{◌≡◌, ◌⊎◌, List}
use Rattle.meta_model.specs.declared.event.Event.{Event}
use Rattle.meta_model.specs.declared.event.Event.TheVariants as events
use Rattle.meta_model.specs.declared.event.Why.TheVariants as why
use Rattle.meta_model.specs.declared.plan.PlanTask.{PlanTask}
use Rattle.meta_model.specs.CleanBuild.{Gives}
use Rattle.tale_model.specs.History.{fails, layout_too_large}
use Rattle.run_model.specs.Courses.{clean_says}

-- The event, if it is that a task failed, is a failure that the clean build says.
abbrev pub IsReal : Gives → List PlanTask → Event → Type 0
IsReal run tasks (events.Failed t cause) = (clean_says run tasks t ≡ fails cause) ⊎ ((clean_says run tasks t ≡ layout_too_large) × (cause ≡ why.TooLarge))
IsReal run tasks _ = Unit {0}
