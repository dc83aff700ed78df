use Rattle.std.proofs.Common.{◌<◌, arith, length, refl, slice_index}
use Rattle.std.proofs.lemmas.List.Elements.{All-push}
use Rattle.std.proofs.lemmas.Option.{slice_get-get_or}
use Rattle.task_graph.specs.Order.{IsDraft}
use Rattle.task_graph.proofs.Drafted.{draft_is, places_more}
use Rattle.task_graph.proofs.order.drafts_of.Goals as goal

pub loop-place-preserved : goal.loop-place-preserved
loop-place-preserved c =
    let i = c.loop-place.place in
    let facts = c.args.facts.now in
    let table = c.args.table.now in
    let tasks = c.args.tasks.now in
    let depths = c.args.depths.now in
    let lt : c.loop-place.place < length c.args.tasks.now = omega (arith, c.loop-place-test.true) in
    let draft = c.in_ok-draft.draft in
    let here = draft_is facts table c.requires.table tasks depths i (slice_index tasks i) (slice_index depths i) draft (c.requires.numbered i 0 lt) (slice_get-get_or tasks i 0 lt) c.in_ok-draft.ensures refl in
    rw c.in_ok-push.ensures.items (record {
      each = All-push (IsDraft facts table tasks depths) c.loop-place.drafts.items draft c.loop-place.invariant.each here;
      places = places_more c.loop-place.drafts.items draft i c.loop-place.invariant.places c.in_ok-draft.ensures.placed;
    })
