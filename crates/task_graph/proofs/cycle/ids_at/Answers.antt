use Rattle.std.proofs.Common.{◌<◌, length, slice_index}
use Rattle.std.proofs.lemmas.List.{get_or_default, take_all}
use Rattle.std.proofs.lemmas.Option.{slice_get-get_or}
use Rattle.task_graph.specs.Turn.{IsIdAt}
use Rattle.task_graph.proofs.Reaching.{zip_more}
use Rattle.task_graph.proofs.Turning.{id_at_place}
use Rattle.task_graph.proofs.cycle.ids_at.Goals as goal

pub loop-place-preserved : goal.loop-place-preserved
loop-place-preserved c =
    let facts = c.args.facts.now in
    let table = c.args.table.now in
    let tasks = c.args.tasks.now in
    let places = c.args.places.now in
    let i = c.loop-place.place-index in
    let p = slice_index places i in
    let lt = c.loop-place-test.true in
    let inside : slice_index c.args.places.now c.loop-place.place-index < length c.args.tasks.now = c.requires.within i 0 lt in
    let here = id_at_place facts table tasks p (slice_index tasks p) c.in_ok-id.id (slice_get-get_or tasks p 0 inside) c.in_ok-id.ensures in
    rw c.in_ok-push.ensures.items (zip_more (IsIdAt facts table tasks) places c.loop-place.ids.items i p c.in_ok-id.id lt (get_or_default places i 0 p lt) c.loop-place.invariant here)

pub returns : goal.returns
returns c = rw (take_all _ _ c.loop-place-test.false) at c.loop-place.invariant
