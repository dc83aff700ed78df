use Rattle.std.proofs.Common.{◌∙◌, ◌<◌, sym, length, arith}
use Rattle.setscene_plan.proofs.Sweeping.{is_in}
use Rattle.why_text.proofs.Causes.{not_in, waits_here}
use Rattle.why_text.proofs.fates.missing_fate.Goals as goal

pub returns-then-not-are_none-clause-fate : goal.returns-then-not-are_none-clause-fate
returns-then-not-are_none-clause-fate g c told s is =
    let known = c.args.known.now in (
      c.requires.missing,
      c.from_vec.ensures ∙ waits_here c.args.rows.now known.plan.now known.seen.now c.args.place c.task_at.result.now s c.in_ok-waits.waits.items c.task_at.ensures c.requires.known.seen_is c.in_ok-waits.ensures is,
      λ e. c.if-not-are_none.ensures (c.as_slice.ensures.value ∙ sym c.from_vec.ensures ∙ e),
    )

pub returns-then-not-known-place-clause-fate : goal.returns-then-not-known-place-clause-fate
returns-then-not-known-place-clause-fate g c told s is =
    let known = c.args.known.now in
    let within : c.args.place < length known.certain.now = omega (arith, c.requires.place, c.requires.known.certain_long) in (
      c.requires.missing,
      sym (waits_here c.args.rows.now known.plan.now known.seen.now c.args.place c.task_at.result.now s c.in_ok-waits.waits.items c.task_at.ensures c.requires.known.seen_is c.in_ok-waits.ensures is) ∙ sym c.as_slice.ensures.value ∙ c.if-not-are_none.ensures,
      not_in known.certain.now c.args.place within c.if-not-known-place.true,
    )

pub returns-clause-fate : goal.returns-clause-fate
returns-clause-fate g c told s is =
    let known = c.args.known.now in
    let within : c.args.place < length known.certain.now = omega (arith, c.requires.place, c.requires.known.certain_long) in (
      c.requires.missing,
      sym (waits_here c.args.rows.now known.plan.now known.seen.now c.args.place c.task_at.result.now s c.in_ok-waits.waits.items c.task_at.ensures c.requires.known.seen_is c.in_ok-waits.ensures is) ∙ sym c.as_slice.ensures.value ∙ c.if-not-are_none.ensures,
      is_in known.certain.now c.args.place within c.if-not-known-place.false,
      c.in_ok-cause_of.ensures.why told s is,
    )
