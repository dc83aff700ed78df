use Rattle.task_model.specs.Keys.{key}
use Rattle.task_plan.proofs.Faulting.{plan_data}
use Rattle.task_plan.proofs.planned.new_keys.Goals as goal

pub returns-in-Err-clause-err : goal.returns-in-Err-clause-err
returns-in-Err-clause-err c = record { told = λ task. plan_data c.args.file.now c.in-Err.fault c.data_told.result (key c.args.store.now task) c.data_told.ensures.told (c.in-Err.ensures.err task) }
