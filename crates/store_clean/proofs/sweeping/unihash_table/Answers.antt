use Rattle.std.proofs.Common.{◌≡◌, ◌∙◌, ap, false, get_or, refl, slice_get, sym, Some}
use Rattle.std.proofs.lemmas.Option.{slice_get-get_or}
use Rattle.store_clean.specs.declared.nodes.Node.{Node}
use Rattle.store_clean.proofs.Swept.{kept_all, kept_next}
use Rattle.store_clean.proofs.sweeping.unihash_table.Goals as goal

pub loop-place-preserved : goal.loop-place-preserved
loop-place-preserved c =
    let at : slice_get c.args.nodes.now c.loop-place.place ≡ Some c.index-nodes-place.result = slice_get-get_or c.args.nodes.now c.loop-place.place c.index-nodes-place.result c.loop-place-test.true ∙ ap (λ (n : Node). Some n) (sym c.index-nodes-place.is) in
    kept_next (λ n. n.unihash) c.args.nodes.now c.args.marks.now c.loop-place.place c.index-nodes-place.result c.loop-place.table.entries c.put_kept.new.table.entries at c.loop-place.invariant (get_or c.args.marks.now c.loop-place.place false) refl c.in_ok-put_kept.ensures

pub returns : goal.returns
returns c = kept_all (λ n. n.unihash) c.args.nodes.now c.args.marks.now c.loop-place.place c.loop-place.table.entries c.loop-place-test.false c.loop-place.invariant
