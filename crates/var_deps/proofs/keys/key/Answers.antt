use Rattle.std.proofs.Common.{◌≡◌, subst, IfOk, IfErr, Ok}
use Rattle.datastore.specs.Faults.{IsDataFault}
use Rattle.task_model.specs.Keys.{key}
use Rattle.var_deps.proofs.Faults.{out_data}
use Rattle.var_deps.proofs.keys.key.Goals as goal

pub returns-in_err-keys-clause-err : goal.returns-in_err-keys-clause-err
returns-in_err-keys-clause-err c =
    out_data c.from_residual.result c.in_err-keys.field-0.0 (λ f. IsDataFault f (key c.args.store.now c.args.task.now)) c.from_residual.ensures.1 (c.in_err-keys.ensures.err c.args.task.now)

pub returns-clause-ok : goal.returns-clause-ok
returns-clause-ok c = subst (λ s. IfOk c.key.result (λ made. key s c.args.task.now ≡ Ok made)) c.in_ok-keys.ensures.ok c.key.ensures.ok

pub returns-clause-err : goal.returns-clause-err
returns-clause-err c = subst (λ s. IfErr c.key.result (λ fault. IsDataFault fault (key s c.args.task.now))) c.in_ok-keys.ensures.ok c.key.ensures.err
