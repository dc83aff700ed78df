use Rattle.std.proofs.Common.{subst, sym}
use Rattle.plan_model.specs.Sound.{IsOnePart}
use Rattle.plan_model.proofs.Filed.{name_is_part}
use Rattle.task_plan.proofs.inputs.file_at.Goals as goal

pub returns-in-Ok-named-clause-part : goal.returns-in-Ok-named-clause-part
returns-in-Ok-named-clause-part g c = subst IsOnePart (sym c.in-Ok-named.ensures.name) (name_is_part c.args.path.now c.requires)
