use Rattle.std.proofs.Common.{◌≡◌, ◌++◌, take}
use Rattle.std.specs.Prelude.{flat_map}
use Rattle.run_model.specs.Texts as texts
use Rattle.bb_report.proofs.plans.dry_text.Given as goal

abbrev pub invariant-loop-task : goal.invariant-loop-task
invariant-loop-task l = l.made ≡ texts.plan_text l.plan ++ flat_map (texts.task_line l.plan.tasks) (take l.task-index l.task-items)
