use Rattle.std.proofs.Common.{◌≡◌, sym, subst, IfSome}
use Rattle.script_gen.specs.Given.{IsKeyOf}
use Rattle.task_plan.specs.Ahead.{IsMade}
use Rattle.task_plan.proofs.ahead.make.Goals as goal

pub with_shell-requires : goal.with_shell-requires
with_shell-requires c = subst (λ s. IsKeyOf s c.args.task.now c.in-Ok.key) (sym c.in-Ok.ensures.same) (record { is = c.in-Ok.ensures.ok })

pub returns-in-Ok-clause-made : goal.returns-in-Ok-clause-made
returns-in-Ok-clause-made c = subst (λ s. IfSome c.with_shell.result (IsMade c.args.file.now s c.args.task.now)) c.in-Ok.ensures.same c.with_shell.ensures
