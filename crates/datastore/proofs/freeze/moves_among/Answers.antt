use Rattle.std.proofs.Common.{◌≡◌, ◌∙◌, ap, sym, subst, filter, map, Ok}
use Rattle.std.proofs.lemmas.Result.{IfOk-weaker, IfErr-weaker}
use Rattle.meta_model.specs.Base as base
use Rattle.meta_model.specs.Frozen as frozen
use Rattle.datastore.specs.Faults.{IsDataFault}
use Rattle.value_maps.specs.Telling.{move_of}
use Rattle.value_maps.specs.Maps.{is_anew}
use Rattle.datastore.proofs.Retold.{left_anew, moves_back}
use Rattle.datastore.proofs.freeze.moves_among.Goals as goal

pub returns-clause-ok : goal.returns-clause-ok
returns-clause-ok c =
    let list = c.args.store.now in
    let maps = c.args.maps.now in
    let e = c.as_slice.ensures ∙ left_anew list maps c.args.names.now c.in_ok-left.left c.requires.names (c.in_ok-left.ensures list c.requires.keeps) in
    IfOk-weaker c.moves_of.result (λ made. frozen.moves list c.as_slice.result.now ≡ Ok (map move_of made.items)) (λ made. frozen.moves list (filter (is_anew maps) (base.names list)) ≡ Ok (map move_of made.items))
    (λ made h. ap (frozen.moves list) (sym e) ∙ h) c.moves_of.ensures.ok

pub returns-clause-err : goal.returns-clause-err
returns-clause-err c =
    let list = c.args.store.now in
    let maps = c.args.maps.now in
    let e = c.as_slice.ensures ∙ left_anew list maps c.args.names.now c.in_ok-left.left c.requires.names (c.in_ok-left.ensures list c.requires.keeps) in
    IfErr-weaker c.moves_of.result (λ fault. IsDataFault fault (frozen.moves list c.as_slice.result.now)) (λ fault. IsDataFault fault (frozen.frozen list))
    (λ fault h. moves_back list maps fault c.requires.keeps (subst (λ l. IsDataFault fault (frozen.moves list l)) e h)) c.moves_of.ensures.err
