use Rattle.std.proofs.Common.{◌∙◌, ap, sym, subst, ℕ, List, filter, is_some, codes}
use Rattle.meta_model.specs.Base.{flag, names}
use Rattle.datastore.specs.Faults.{IsDataFault}
use Rattle.task_model.specs.Keys.{key}
use Rattle.var_deps.specs.declared.table.Table.{Table}
use Rattle.var_deps.specs.Exports.{AreExports}
use Rattle.var_deps.proofs.Stores.{of_store}
use Rattle.var_deps.proofs.Faults.{first_refused, second_refused, out_data, want_data}
use Rattle.var_deps.proofs.keys.StoreKeys.new.Goals as goal

pub returns-in_err-ignored-clause-err : goal.returns-in_err-ignored-clause-err
returns-in_err-ignored-clause-err c =
    let fault = c.in_err-ignored.field-0.0 in
    out_data c.from_residual.result fault (λ f. (task : List ℕ) → IsDataFault f (key c.args.store.now task)) c.from_residual.ensures.1 (first_refused c.args.store.now fault c.in_err-ignored.ensures.err)

pub returns-in_err-sstate-clause-err : goal.returns-in_err-sstate-clause-err
returns-in_err-sstate-clause-err c =
    let fault = c.in_err-sstate.field-0.0 in
    out_data c.from_residual-in_err-sstate.result fault (λ f. (task : List ℕ) → IsDataFault f (key c.args.store.now task)) c.from_residual-in_err-sstate.ensures.1 (second_refused c.args.store.now c.in_ok-ignored.ignored fault c.in_ok-ignored.ensures.ok c.in_err-sstate.ensures.err)

pub returns-in_err-exported-clause-err : goal.returns-in_err-exported-clause-err
returns-in_err-exported-clause-err c =
    want_data c.from_residual-in_err-exported.result (λ f. (task : List ℕ) → IsDataFault f (key c.args.store.now task)) c.from_residual-in_err-exported.ensures.1 (λ task. tt)

pub returns-in_err-exports-clause-err : goal.returns-in_err-exports-clause-err
returns-in_err-exports-clause-err c =
    want_data c.from_residual-in_err-exports.result (λ f. (task : List ℕ) → IsDataFault f (key c.args.store.now task)) c.from_residual-in_err-exports.ensures.1 (λ task. tt)

pub exports_of-requires-clause-all : goal.exports_of-requires-clause-all
exports_of-requires-clause-all c =
    c.in_ok-exported.ensures ∙ ap (λ l. filter (λ n. is_some (flag l n (codes "export"))) (names l)) (sym c.empty_table-table.ensures.store)

pub invariant_of-result : goal.invariant_of-result
invariant_of-result c =
    let t = c.empty_table-table.result in
    let store = c.empty_table-table.ensures.store in
    let ignored = c.empty_table-table.ensures.ignored in
    let made : Table = record { shared = c.exports_of.new.shared; task = t.task; sstate = t.sstate; own = t.own } in
    of_store made c.args.store.now c.in_ok-ignored.ignored c.in_ok-sstate.sstate c.in_ok-exports.exports c.exports_of.ensures.right (c.exports_of.ensures.same.store ∙ store) (c.exports_of.ensures.same.ignored ∙ ignored)
    (subst (λ l. AreExports l c.in_ok-ignored.ignored c.in_ok-exports.exports) store (subst (λ l. AreExports t.shared.seen.store.now l c.in_ok-exports.exports) ignored c.in_ok-exports.ensures.exports))
    c.in_ok-ignored.ensures.ok c.in_ok-sstate.ensures.ok

pub returns-in_err-functions-clause-err : goal.returns-in_err-functions-clause-err
returns-in_err-functions-clause-err c =
    want_data c.from_residual-in_err-functions.result (λ f. (task : List ℕ) → IsDataFault f (key c.args.store.now task)) c.from_residual-in_err-functions.ensures.1 (λ task. tt)
