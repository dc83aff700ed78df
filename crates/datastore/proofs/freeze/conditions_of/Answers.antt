use Rattle.std.proofs.Common.{◌∙◌, ap, sym, subst, refl, ◌+◌, drop}
use Rattle.std.proofs.lemmas.Result.{err_from_is_err_and}
use Rattle.meta_model.specs.Active as entries
use Rattle.meta_model.specs.Frozen as frozen
use Rattle.datastore.specs.Faults.{IsDataFault}
use Rattle.datastore.proofs.Looking.{if_err}
use Rattle.datastore.proofs.Freezing.{one_more, one_fault}
use Rattle.meta_model.specs.Passing.{behind}
use Rattle.meta_model.proofs.Passing.{next_of}
use Rattle.datastore.proofs.freeze.conditions_of.Goals as goal

pub returns-in_err-expand_over-clause-err : goal.returns-in_err-expand_over-clause-err
returns-in_err-expand_over-clause-err c =
    let list = c.args.store.now in
    let when = c.args.when.now in
    let i = c.loop-text.text-index in
    let fault = c.in_err-expand_over.field-0.0 in
    let p = err_from_is_err_and c.from_residual.result c.from_residual.ensures.1 in
    if_err (λ f. IsDataFault f (frozen.conditions list when)) c.from_residual.result p.0 p.1 (subst (λ f. IsDataFault f (frozen.conditions list when)) (sym p.2)
    (one_fault (entries.expand list) (frozen.conditions list) (λ b rest. refl) (frozen.conditions list when) c.loop-text.made c.text-item.result (drop (i + 1) when) fault
    (c.loop-text.invariant ∙ ap (behind c.loop-text.made) (next_of (frozen.conditions list) when i c.text-item.result c.text-item.is c.loop-text-test.true))
    (subst (λ t. IsDataFault fault (entries.expand list t)) c.as_str.ensures c.in_err-expand_over.ensures.err)))

pub loop-text-preserved : goal.loop-text-preserved
loop-text-preserved c =
    let list = c.args.store.now in
    let when = c.args.when.now in
    let i = c.loop-text.text-index in
    c.loop-text.invariant ∙ ap (behind c.loop-text.made) (next_of (frozen.conditions list) when i c.text-item.result c.text-item.is c.loop-text-test.true)
    ∙ one_more (entries.expand list) (frozen.conditions list) (λ b rest. refl) c.loop-text.made c.text-item.result (drop (i + 1) when) c.in_ok-expand_over.field-0 (ap (entries.expand list) (sym c.as_str.ensures) ∙ c.in_ok-expand_over.ensures.ok)
    ∙ ap (λ m. behind m (frozen.conditions list (drop (i + 1) when))) (sym c.in_ok-push.ensures.ok)
