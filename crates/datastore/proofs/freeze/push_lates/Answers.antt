use Rattle.std.proofs.Common.{◌∙◌, ap, sym, subst, ◌+◌, drop}
use Rattle.std.proofs.lemmas.Result.{err_from_is_err_and}
use Rattle.meta_model.specs.declared.entry.EntryLine.TheVariants.{Later}
use Rattle.meta_model.specs.Frozen as frozen
use Rattle.datastore.specs.Faults.{IsDataFault}
use Rattle.meta_model.specs.Passing.{behind, behind}
use Rattle.meta_model.proofs.Passing.{next_of}
use Rattle.datastore.proofs.Looking.{if_err}
use Rattle.datastore.proofs.Freezing.{one_more, one_fault, late_made, lates_are, late_ok, late_fault, behind_fault}
use Rattle.datastore.proofs.freeze.push_lates.Goals as goal

pub returns-in_err-when-clause-err : goal.returns-in_err-when-clause-err
returns-in_err-when-clause-err c =
    let list = c.args.store.now in
    let target = c.args.target.now in
    let lates = c.args.lates.now in
    let i = c.loop-late.late-index in
    let x = c.late-item.result in
    let fault = c.in_err-when.field-0.0 in
    let p = err_from_is_err_and c.from_residual.result c.from_residual.ensures.1 in
    if_err (λ f. IsDataFault f (frozen.told_lates list target lates)) c.from_residual.result p.0 p.1 (subst (λ f. IsDataFault f (frozen.told_lates list target lates)) (sym p.2)
    (behind_fault (frozen.told_lates list target lates) c.args.lines.now.items fault
    (one_fault (late_made list target) (frozen.told_lates list target) (lates_are list target) (behind c.args.lines.now.items (frozen.told_lates list target lates)) c.loop-late.lines.items x (drop (i + 1) lates) fault
    (c.loop-late.invariant ∙ ap (behind c.loop-late.lines.items) (next_of (frozen.told_lates list target) lates i x c.late-item.is c.loop-late-test.true))
    (late_fault list target x fault (subst (λ w. IsDataFault fault (frozen.conditions list w)) c.as_slice.ensures c.in_err-when.ensures.err)))))

pub loop-late-preserved : goal.loop-late-preserved
loop-late-preserved c =
    let list = c.args.store.now in
    let target = c.args.target.now in
    let lates = c.args.lates.now in
    let i = c.loop-late.late-index in
    let x = c.late-item.result in
    let made = Later target x.kind c.in_ok-when.when x.text in
    let done = late_ok list target x c.in_ok-when.when (ap (frozen.conditions list) (sym c.as_slice.ensures) ∙ c.in_ok-when.ensures.ok) in
    c.loop-late.invariant ∙ ap (behind c.loop-late.lines.items) (next_of (frozen.told_lates list target) lates i x c.late-item.is c.loop-late-test.true)
    ∙ one_more (late_made list target) (frozen.told_lates list target) (lates_are list target) c.loop-late.lines.items x (drop (i + 1) lates) made done
    ∙ ap (λ m. behind m (frozen.told_lates list target (drop (i + 1) lates))) (sym c.in_ok-push_late.ensures)
