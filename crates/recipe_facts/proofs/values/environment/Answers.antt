use Rattle.std.proofs.Common.{◌≡◌, ◌∙◌, Ok, filter, []}
use Rattle.std.proofs.lemmas.Result.{IfOk-weaker, IfErr-weaker}
use Rattle.meta_model.specs.Text.{begins_with}
use Rattle.datastore.specs.Faults.{IsDataFault}
use Rattle.load_model.specs.Facts.{environment, values_behind}
use Rattle.datastore.proofs.Freezing.{fault_same}
use Rattle.recipe_facts.proofs.Valued.{environment_is}
use Rattle.recipe_facts.proofs.values.environment.Goals as goal

pub returns-clause-ok : goal.returns-clause-ok
returns-clause-ok c =
    let lines = c.args.store.now in
    let names = c.as_slice.result.now in
    let same = environment_is lines names (c.as_slice.ensures ∙ c.in_ok-names.ensures) in
    IfOk-weaker c.values_of.result (λ made. values_behind lines [] (filter (begins_with []) names) ≡ Ok made) (λ made. environment lines ≡ Ok made) (λ made e. same ∙ e) c.values_of.ensures.ok

pub returns-clause-err : goal.returns-clause-err
returns-clause-err c =
    let lines = c.args.store.now in
    let names = c.as_slice.result.now in
    let same = environment_is lines names (c.as_slice.ensures ∙ c.in_ok-names.ensures) in
    IfErr-weaker c.values_of.result (λ fault. IsDataFault fault (values_behind lines [] (filter (begins_with []) names))) (λ fault. IsDataFault fault (environment lines)) (λ fault h. fault_same fault (environment lines) (values_behind lines [] (filter (begins_with []) names)) same h) c.values_of.ensures.err
