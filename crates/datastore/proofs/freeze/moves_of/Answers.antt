use Rattle.std.proofs.Common.{◌≡◌, ◌∙◌, ap, sym, subst, ◌∷◌, [], ◌+◌, drop, map, Ok}
use Rattle.std.proofs.lemmas.Result.{err_from_is_err_and}
use Rattle.std.proofs.lemmas.List.{map-append}
use Rattle.meta_model.specs.Frozen as frozen
use Rattle.datastore.specs.Faults.{IsDataFault}
use Rattle.value_maps.specs.Telling.{move_of}
use Rattle.datastore.proofs.Looking.{if_err}
use Rattle.datastore.proofs.Freezing.{move_fault, move_more}
use Rattle.meta_model.specs.Passing.{behind}
use Rattle.meta_model.proofs.Passing.{next_of}
use Rattle.datastore.proofs.freeze.moves_of.Goals as goal

pub returns-in_err-target-clause-err : goal.returns-in_err-target-clause-err
returns-in_err-target-clause-err c =
    let list = c.args.store.now in
    let names = c.args.names.now in
    let i = c.loop-name.name-index in
    let x = c.name-item.result in
    let before = map move_of c.loop-name.made.items in
    let fault = c.in_err-target.field-0.0 in
    let p = err_from_is_err_and c.from_residual.result c.from_residual.ensures.1 in
    if_err (λ f. IsDataFault f (frozen.moves list names)) c.from_residual.result p.0 p.1 (subst (λ f. IsDataFault f (frozen.moves list names)) (sym p.2)
    (move_fault list (frozen.moves list names) before x (drop (i + 1) names) fault
    (c.loop-name.invariant ∙ ap (behind before) (next_of (frozen.moves list) names i x c.name-item.is c.loop-name-test.true))
    (subst (λ t. IsDataFault fault (frozen.target_of list t (frozen.holds_reference t))) c.as_str.ensures c.in_err-target.ensures.err)))

pub loop-name-preserved : goal.loop-name-preserved
loop-name-preserved c =
    let list = c.args.store.now in
    let names = c.args.names.now in
    let i = c.loop-name.name-index in
    let x = c.name-item.result in
    let made = c.loop-name.made.items in
    let target = c.in_ok-target.target in
    let goes = subst (λ t. frozen.target_of list t (frozen.holds_reference t) ≡ Ok target) c.as_str.ensures c.in_ok-target.ensures.ok in
    c.loop-name.invariant ∙ ap (behind (map move_of made)) (next_of (frozen.moves list) names i x c.name-item.is c.loop-name-test.true)
    ∙ move_more list (map move_of made) x (drop (i + 1) names) target goes
    ∙ ap (λ m. behind m (frozen.moves list (drop (i + 1) names))) (sym (ap (map move_of) c.in_ok-push_pair.ensures ∙ map-append move_of made ((x, target) ∷ [])))
