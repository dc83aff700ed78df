use Rattle.std.proofs.Common.{◌≡◌, ◌++◌, take, length}
use Rattle.std.specs.Prelude.{flat_map}
use Rattle.run_model.specs.Texts as texts
use Rattle.bb_report.proofs.plans.plan_text.Given as goal

abbrev pub invariant-loop-task : goal.invariant-loop-task
invariant-loop-task l = l.made ≡ texts.plan_line (length l.plan.tasks) l.plan.threads ++ flat_map texts.excluded_line (take l.task-index l.task-items)
