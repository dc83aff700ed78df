use Rattle.std.proofs.Common.{◌≡◌, ◌∙◌, sym, ap, Some, get_or, slice_get, ◌++◌, ◌∷◌, []}
use Rattle.std.proofs.lemmas.Option.{slice_get-get_or}
use Rattle.store_model.specs.Opened.{row_of_candidate}
use Rattle.store_model.specs.Rows.{row_at}
use Rattle.store_opening.proofs.Indexed.{believed_at, new_name, rows_more}
use Rattle.store_opening.proofs.judging.rows_of.Goals as goal

pub add_candidate-requires : goal.add_candidate-requires
add_candidate-requires c =
    let lt = believed_at c.args.candidates.now c.args.places.now c.loop-place.place-index c.requires.believed c.loop-place-test.true in
    let p = get_or c.args.places.now c.loop-place.place-index 0 in
    let at : slice_get c.args.candidates.now p ≡ Some c.index-candidates-place.result = slice_get-get_or c.args.candidates.now p c.index-candidates-place.result lt ∙ ap (λ x. Some x) (sym c.index-candidates-place.is) in
    ap (λ rows. row_at rows c.index-candidates-place.result.name) c.loop-place.invariant ∙ new_name c.args.candidates.now c.args.places.now c.loop-place.place-index c.index-candidates-place.result c.requires.ascend c.requires.believed c.loop-place-test.true at

pub loop-place-preserved : goal.loop-place-preserved
loop-place-preserved c =
    let lt = believed_at c.args.candidates.now c.args.places.now c.loop-place.place-index c.requires.believed c.loop-place-test.true in
    let p = get_or c.args.places.now c.loop-place.place-index 0 in
    let at : slice_get c.args.candidates.now p ≡ Some c.index-candidates-place.result = slice_get-get_or c.args.candidates.now p c.index-candidates-place.result lt ∙ ap (λ x. Some x) (sym c.index-candidates-place.is) in
    c.in_ok-add_candidate.ensures ∙ ap (λ rows. rows ++ row_of_candidate c.index-candidates-place.result ∷ []) c.loop-place.invariant
    ∙ sym (rows_more c.args.candidates.now c.args.places.now c.loop-place.place-index c.index-candidates-place.result c.loop-place-test.true at)
