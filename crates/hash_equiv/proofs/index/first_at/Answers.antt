use Rattle.std.proofs.Common.{◌∙◌, ap, sym, is_some}
use Rattle.std.specs.Map.{values_of}
use Rattle.store_model.specs.Rows.{is_row_for}
use Rattle.hash_equiv.proofs.Rowing.{found_on, found_whole, none_made, some_made}
use Rattle.hash_equiv.proofs.index.first_at.Goals as goal

pub loop-place-preserved : goal.loop-place-preserved
loop-place-preserved c =
    let p = is_row_for c.args.pn.now c.args.task.now c.args.manifest.now in
    found_on p (values_of c.args.rows.now.entries) c.args.places.now c.loop-place.place-index c.loop-place-test.true c.loop-place.invariant
    ∙ none_made _ (sym (ap is_some c.unihash_at-found.ensures) ∙ sym c.is_some.ensures ∙ c.if-is_some.false)

pub returns-then-is_some : goal.returns-then-is_some
returns-then-is_some c =
    let p = is_row_for c.args.pn.now c.args.task.now c.args.manifest.now in
    c.unihash_at-found.ensures
    ∙ some_made _ _ (sym (ap is_some c.unihash_at-found.ensures) ∙ sym c.is_some.ensures ∙ c.if-is_some.true)
    (found_whole p (values_of c.args.rows.now.entries) c.args.places.now c.loop-place.place-index c.loop-place-test.true c.loop-place.invariant)
