use Rattle.std.proofs.Common.{◌≡◌, drop}
use Rattle.load_model.specs.Facts.{all_tasks}
use Rattle.meta_model.specs.Passing.{behind}
use Rattle.recipe_facts.proofs.tasks.all_tasks.Given as goal

abbrev pub invariant-loop-task : goal.invariant-loop-task
invariant-loop-task l = all_tasks l.store l.tasks ≡ behind l.made (all_tasks l.store (drop l.task-index l.tasks))
