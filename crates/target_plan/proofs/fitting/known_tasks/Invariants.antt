-- What was read so far fits.
use Rattle.std.proofs.Common.{take}
use Rattle.std.specs.List.{AllByRecursion}
use Rattle.plan_model.specs.Spellings.{TaskFits}
use Rattle.target_plan.proofs.fitting.known_tasks.Given as goal

abbrev pub invariant-loop-task : goal.invariant-loop-task
invariant-loop-task l = AllByRecursion TaskFits (take l.task-index l.tasks)
