use Rattle.std.proofs.Common.{◌≡◌, ◌∙◌, ap, sym, subst, List, Bool, ◌+◌, ◌≤◌, length, drop, ◌&&◌, arith}
use Rattle.std.specs.List.{list_all}
use Rattle.std.specs.Option.{is_some}
use Rattle.std.proofs.Math.ListN.{drop_of_length-le}
use Rattle.store_model.specs.Rows.{row_at}
use Rattle.store_model.specs.Signatures.{Signed, signatures}
use Rattle.setscene_plan.proofs.Naming.{signed_count}
use Rattle.why_model.specs.Seen.{is_seen, seen_from, seen_over}
use Rattle.why_text.proofs.SeenTasks.{at_place, names_count, seen_step}
use Rattle.why_text.proofs.seen.seen_over.Goals as goal

pub name_at-requires : goal.name_at-requires
name_at-requires c = omega (arith, c.loop-place-test.true, names_count c.args.rows.now c.args.tasks.now c.args.names.now c.requires)

pub loop-place-preserved : goal.loop-place-preserved
loop-place-preserved c =
    subst (λ (made : List Bool). seen_from c.args.rows.now made (drop (c.loop-place.place + 1) (signatures c.args.rows.now c.args.tasks.now)) ≡ seen_over c.args.rows.now c.args.tasks.now) (sym c.in_ok-push.ensures.items)
    (seen_step c.args.rows.now c.args.tasks.now c.args.names.now c.loop-place.seen.items c.loop-place.place c.index-tasks-place.result c.name_at.result.now c.is_next_seen-is.result c.requires c.loop-place-test.true
    (at_place c.args.tasks.now c.loop-place.place c.index-tasks-place.result c.loop-place-test.true c.index-tasks-place.is)
    c.name_at.ensures
    (c.is_next_seen-is.ensures ∙ ap (λ (made : List Bool). list_all (is_seen made) c.index-tasks-place.result.deps && is_some (row_at c.args.rows.now c.name_at.result.now)) c.as_slice.ensures.value)
    c.loop-place.invariant)

pub returns : goal.returns
returns c =
    let past : length (signatures c.args.rows.now c.args.tasks.now) ≤ c.loop-place.place = omega (arith, c.loop-place-test.false, signed_count c.args.rows.now c.args.tasks.now) in
    sym (ap (λ (xs : List Signed). seen_from c.args.rows.now c.loop-place.seen.items xs) (drop_of_length-le (signatures c.args.rows.now c.args.tasks.now) past)) ∙ c.loop-place.invariant
