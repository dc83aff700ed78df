use Rattle.std.proofs.Common.{subst, IfErr}
use Rattle.task_plan.specs.Steps.{IsFaultOfKeys}
use Rattle.task_plan.proofs.planned.keys_of.Goals as goal

pub returns-in-None-clause-err : goal.returns-in-None-clause-err
returns-in-None-clause-err c = subst (λ s. IfErr c.new_keys.result (λ fault. IsFaultOfKeys fault c.args.file.now s)) c.store_of.ensures c.new_keys.ensures.err
