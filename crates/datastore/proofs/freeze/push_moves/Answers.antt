use Rattle.std.proofs.Common.{◌∙◌, ap, sym, subst, ◌+◌, map, drop}
use Rattle.std.proofs.lemmas.Result.{err_from_is_err_and}
use Rattle.meta_model.specs.Frozen as frozen
use Rattle.datastore.specs.Faults.{IsDataFault}
use Rattle.value_maps.specs.Telling.{move_of}
use Rattle.datastore.specs.Telling.{parted}
use Rattle.datastore.proofs.Looking.{if_err}
use Rattle.datastore.proofs.Freezing.{map_drop, move_step, parted_fault}
use Rattle.datastore.proofs.freeze.push_moves.Goals as goal

pub returns-in_err-push_move-clause-err : goal.returns-in_err-push_move-clause-err
returns-in_err-push_move-clause-err c =
    let list = c.args.store.now in
    let s = c.args.staying.now.items in
    let g = c.args.moving.now.items in
    let all = map move_of c.args.moves.now in
    let i = c.loop-pair.pair-index in
    let rest = map move_of (drop (i + 1) c.args.moves.now) in
    let x = c.pair-item.result in
    let p = err_from_is_err_and c.from_residual.result c.from_residual.ensures.1 in
    if_err (λ f. IsDataFault f (parted s g (frozen.told_all list all))) c.from_residual.result p.0 p.1 (subst (λ f. IsDataFault f (parted s g (frozen.told_all list all))) (sym p.2)
    (parted_fault list (frozen.told_all list all) s g c.loop-pair.staying.items c.loop-pair.moving.items (move_of x) rest c.in_err-push_move.field-0.0
    (c.loop-pair.invariant ∙ ap (λ l. parted c.loop-pair.staying.items c.loop-pair.moving.items (frozen.told_all list l)) (map_drop c.args.moves.now i x c.pair-item.is c.loop-pair-test.true))
    c.in_err-push_move.ensures.err))

pub loop-pair-preserved : goal.loop-pair-preserved
loop-pair-preserved c =
    let list = c.args.store.now in
    let i = c.loop-pair.pair-index in
    let rest = map move_of (drop (i + 1) c.args.moves.now) in
    let x = c.pair-item.result in
    c.loop-pair.invariant ∙ ap (λ l. parted c.loop-pair.staying.items c.loop-pair.moving.items (frozen.told_all list l)) (map_drop c.args.moves.now i x c.pair-item.is c.loop-pair-test.true)
    ∙ move_step list c.loop-pair.staying.items c.loop-pair.moving.items c.push_move.new.staying.items c.push_move.new.moving.items (move_of x) rest c.in_ok-push_move.ensures.ok
