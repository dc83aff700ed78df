use Rattle.std.proofs.Common.{◌≡◌, ◌∙◌, sym, ap, Some, slice_get}
use Rattle.std.proofs.lemmas.Option.{slice_get-get_or}
use Rattle.store_opening.proofs.Marked.{unmarked_more}
use Rattle.store_opening.proofs.survey.doom_unmarked.Goals as goal

pub loop-place-preserved : goal.loop-place-preserved
loop-place-preserved c =
    let at : slice_get c.args.candidates.now c.loop-place.place ≡ Some c.index-candidates-place.result = slice_get-get_or c.args.candidates.now c.loop-place.place c.index-candidates-place.result c.loop-place-test.true ∙ ap (λ x. Some x) (sym c.index-candidates-place.is) in
    unmarked_more c.args.candidates.now c.args.marks.now c.loop-place.place c.index-candidates-place.result c.args.doomed.now.items c.loop-place.doomed.items c.doom_unless.new.doomed.items at c.loop-place.invariant c.in_ok-doom_unless.ensures
