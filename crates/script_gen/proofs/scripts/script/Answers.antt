use Rattle.std.proofs.Common.{◌≡◌, ◌∙◌, sym, subst, ℕ, List, IfOk, IfErr, Result, Ok}
use Rattle.datastore.specs.Faults.{IsDataFault}
use Rattle.meta_model.specs.declared.value.Key.{Key}
use Rattle.meta_model.specs.Base.{names}
use Rattle.meta_model.specs.Active.{find_in}
use Rattle.task_model.specs.Views.{seen_by}
use Rattle.task_model.specs.Keys.{key}
use Rattle.task_model.specs.TaskRefusal.{TaskRefusal, asked}
use Rattle.task_model.specs.Scripts.{script, script_from, store_flags, line_names}
use Rattle.script_gen.specs.Told.{told}
use Rattle.script_gen.specs.Faults.{IsScriptFault}
use Rattle.script_gen.specs.Given.{IsKeyOf}
use Rattle.script_gen.proofs.Passing.{out, fault_on, asked_data}
use Rattle.script_gen.proofs.scripts.script.Goals as goal

pub returns-in_err-keys-clause-err : goal.returns-in_err-keys-clause-err
returns-in_err-keys-clause-err c =
    let store = c.args.store.now in
    let task = c.args.task.now in
    let fault = c.in_err-keys.field-0.0 in
    let rest : Key → Result (List ℕ) TaskRefusal = λ made. script_from (seen_by task (find_in store)) (store_flags store task) (names store) (line_names made) task in
    out c.from_residual.result (told fault) (script store task) c.from_residual.ensures.1 (fault_on (told fault) (asked (key store task)) rest (asked_data fault (key store task) (c.in_err-keys.ensures.err task)))

pub returns-in_err-key-clause-err : goal.returns-in_err-key-clause-err
returns-in_err-key-clause-err c =
    let store = c.args.store.now in
    let task = c.args.task.now in
    let fault = c.in_err-key.field-0.0 in
    let rest : Key → Result (List ℕ) TaskRefusal = λ made. script_from (seen_by task (find_in store)) (store_flags store task) (names store) (line_names made) task in
    out c.from_residual-in_err-key.result (told fault) (script store task) c.from_residual-in_err-key.ensures.1
    (fault_on (told fault) (asked (key store task)) rest (asked_data fault (key store task) (subst (λ s. IsDataFault fault (key s task)) c.in_ok-keys.ensures.ok c.in_err-key.ensures.err)))

pub script_with-requires : goal.script_with-requires
script_with-requires c = subst (λ s. IsKeyOf s c.args.task.now c.in_ok-key.key) (sym c.key.ensures.same) (record { is = c.in_ok-key.ensures.ok })

pub returns-clause-ok : goal.returns-clause-ok
returns-clause-ok c = subst (λ s. IfOk c.script_with.result (λ made. script s c.args.task.now ≡ Ok made)) (c.key.ensures.same ∙ c.in_ok-keys.ensures.ok) c.script_with.ensures.ok

pub returns-clause-err : goal.returns-clause-err
returns-clause-err c = subst (λ s. IfErr c.script_with.result (λ fault. IsScriptFault fault (script s c.args.task.now))) (c.key.ensures.same ∙ c.in_ok-keys.ensures.ok) c.script_with.ensures.err
