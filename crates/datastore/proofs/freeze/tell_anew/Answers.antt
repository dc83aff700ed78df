use Rattle.std.proofs.Common.{sym, subst, [], map}
use Rattle.std.proofs.lemmas.Result.{err_from_is_err_and}
use Rattle.meta_model.specs.Frozen as frozen
use Rattle.datastore.specs.Faults.{IsDataFault}
use Rattle.value_maps.specs.Telling.{move_of}
use Rattle.datastore.specs.Telling.{parted}
use Rattle.datastore.proofs.Looking.{if_err}
use Rattle.datastore.proofs.Retold.{told_back}
use Rattle.datastore.proofs.freeze.tell_anew.Goals as goal

pub returns-in_err-staying-clause-err : goal.returns-in_err-staying-clause-err
returns-in_err-staying-clause-err c =
    let list = c.args.store.now in
    let maps = c.args.maps.now in
    let moves = map move_of c.in_ok-moves.moves.items in
    let made = c.from_residual-in_err-staying.result in
    let fault = c.in_err-staying.field-0.0 in
    let p = err_from_is_err_and made c.from_residual-in_err-staying.ensures.1 in
    let told = subst (λ l. IsDataFault fault (parted [] [] (frozen.told_all list (map move_of l)))) c.as_slice-2.ensures.value c.in_err-staying.ensures.err in
    if_err (λ f. IsDataFault f (frozen.frozen list)) made p.0 p.1 (subst (λ f. IsDataFault f (frozen.frozen list)) (sym p.2) (told_back list maps moves fault c.requires.keeps c.in_ok-moves.ensures.ok told))
