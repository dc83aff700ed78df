use Rattle.std.proofs.Common.{◌≡◌, ◌∙◌, Ok}
use Rattle.std.proofs.lemmas.Result.{on_ok_weaker, IfErr-weaker}
use Rattle.meta_model.specs.Frozen as frozen
use Rattle.datastore.specs.Faults.{IsDataFault}
use Rattle.value_maps.specs.Telling.{move_of}
use Rattle.meta_model.specs.Passing.{behind}
use Rattle.datastore.proofs.Freezing.{told_ok, told_lates_fault}
use Rattle.datastore.proofs.freeze.push_told.Goals as goal

pub returns-clause-ok : goal.returns-clause-ok
returns-clause-ok c =
    let list = c.args.store.now in
    let move = move_of (c.args.source.now, c.args.target.now) in
    let late = c.lates_of.result.now in
    let keeps = c.maps-maps.ensures in
    on_ok_weaker c.push_lates.result
    (λ (h : behind c.push_named.new.lines.items (frozen.told_lates list c.args.target.now late) ≡ Ok c.push_lates.new.lines.items).
    told_ok list move c.args.lines.now.items c.push_named.new.lines.items c.push_lates.new.lines.items late (c.in_ok-push_named.ensures list keeps) (c.lates_of.ensures ∙ keeps.late c.args.source.now) h)
    c.push_lates.ensures.ok

pub returns-clause-err : goal.returns-clause-err
returns-clause-err c =
    let list = c.args.store.now in
    let move = move_of (c.args.source.now, c.args.target.now) in
    let late = c.lates_of.result.now in
    let keeps = c.maps-maps.ensures in
    IfErr-weaker c.push_lates.result (λ fault. IsDataFault fault (frozen.told_lates list c.args.target.now late)) (λ fault. IsDataFault fault (frozen.told list move))
    (λ fault h. told_lates_fault list move late fault (c.lates_of.ensures ∙ keeps.late c.args.source.now) h)
    c.push_lates.ensures.err
