use Rattle.std.proofs.Common.{arith, get_or}
use Rattle.store_opening.proofs.Marked.{marks_more, place_in}
use Rattle.store_opening.proofs.survey.marks_of.Goals as goal

pub index_mut-requires : goal.index_mut-requires
index_mut-requires c =
    let within = c.requires (get_or c.args.places.now c.loop-place.place-index 0) (place_in c.args.places.now c.loop-place.place-index c.loop-place-test.true) in
    let long = c.loop-place.invariant.long in
    omega (arith, within, long)

pub loop-place-preserved : goal.loop-place-preserved
loop-place-preserved c =
    let within = c.requires (get_or c.args.places.now c.loop-place.place-index 0) (place_in c.args.places.now c.loop-place.place-index c.loop-place-test.true) in
    marks_more c.args.count c.args.places.now c.loop-place.marks.items c.loop-place.place-index c.loop-place-test.true within c.loop-place.invariant
