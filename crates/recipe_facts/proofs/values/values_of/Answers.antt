use Rattle.std.proofs.Common.{◌∙◌, ap, sym, subst, ◌∷◌, [], filter}
use Rattle.meta_model.specs.Text.{begins_with}
use Rattle.datastore.specs.Faults.{IsDataFault}
use Rattle.load_model.specs.Facts.{values_behind}
use Rattle.meta_model.specs.Passing.{behind}
use Rattle.recipe_facts.proofs.Binding.{exit}
use Rattle.recipe_facts.proofs.Valued.{values_go_on, values_fault}
use Rattle.recipe_facts.proofs.values.values_of.Goals as goal

pub returns-in_err-push_value-clause-err : goal.returns-in_err-push_value-clause-err
returns-in_err-push_value-clause-err c =
    let lines = c.args.store.now in
    let front = c.args.front.now in
    let names = c.args.names.now in
    let fault = c.in_err-push_value.field-0.0 in
    exit c.from_residual.result fault (values_behind lines front (filter (begins_with front) names)) c.from_residual.ensures.1
    (values_fault lines front (values_behind lines front (filter (begins_with front) names)) c.loop-name.list names c.loop-name.name-index c.name-item.result fault c.name-item.is c.loop-name-test.true c.loop-name.invariant
    (subst (λ n. IsDataFault fault (values_behind lines front (filter (begins_with front) (n ∷ [])))) c.as_str.ensures c.in_err-push_value.ensures.err))

pub loop-name-preserved : goal.loop-name-preserved
loop-name-preserved c =
    let lines = c.args.store.now in
    let front = c.args.front.now in
    let names = c.args.names.now in
    values_go_on lines front (values_behind lines front (filter (begins_with front) names)) c.loop-name.list c.push_value.new.list names c.loop-name.name-index c.name-item.result c.name-item.is c.loop-name-test.true c.loop-name.invariant
    (ap (λ n. behind c.loop-name.list (values_behind lines front (filter (begins_with front) (n ∷ [])))) (sym c.as_str.ensures) ∙ c.in_ok-push_value.ensures.ok)
