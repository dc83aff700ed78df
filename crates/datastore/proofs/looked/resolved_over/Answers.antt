use Rattle.std.proofs.Common.{◌∙◌, sym}
use Rattle.std.proofs.lemmas.Result.{err_from_is_err_and}
use Rattle.meta_model.specs.Active as entries
use Rattle.datastore.specs.Faults.{IsDataFault}
use Rattle.datastore.specs.Looked.{found_over}
use Rattle.datastore.proofs.Looking.{found_is, data_fault, if_err}
use Rattle.datastore.proofs.looked.resolved_over.Goals as goal

pub returns-in_err-find-clause-err : goal.returns-in_err-find-clause-err
returns-in_err-find-clause-err c =
    let list = c.args.store.now in
    let p = err_from_is_err_and c.from_residual.result c.from_residual.ensures.1 in
    if_err (λ fault. IsDataFault fault ((entries.find_in list).at c.args.name.now)) c.from_residual.result p.0 p.1 (data_fault c.in_err-find.field-0.0 p.0 ((found_over list c.args.overrides.now).at c.args.name.now) ((entries.find_in list).at c.args.name.now) p.2 (found_is list c.args.overrides.now c.requires c.args.name.now) c.in_err-find.ensures.err)

pub returns-clause-ok : goal.returns-clause-ok
returns-clause-ok c = sym (found_is c.args.store.now c.args.overrides.now c.requires c.args.name.now) ∙ c.in_ok-find.ensures.ok
