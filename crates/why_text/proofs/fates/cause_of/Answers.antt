use Rattle.std.proofs.Common.{◌<◌, length, arith}
use Rattle.std.proofs.lemmas.Result.{IfOk-weaker}
use Rattle.setscene_plan.proofs.Sweeping.{is_in}
use Rattle.why_text.proofs.Causes.{always_at, changed_at, forced_at, not_in}
use Rattle.why_text.proofs.fates.cause_of.Goals as goal

pub returns-then-not-task-clause-why : goal.returns-then-not-task-clause-why
returns-then-not-task-clause-why g c told =
    let known = c.args.known.now in
    IfOk-weaker c.changed_cause.result _ _
    (λ why is. changed_at (g.D.Disk.story c.args.disk.now).held c.args.rows.now known.plan.now known.avail.now known.certain.now c.args.force known.unihashes.now c.args.place c.task_at-task.result.now why c.requires.ordered c.requires.known.over c.task_at-task.ensures c.if-not-task.true
    (is c.task_at-task.result.now c.task_at-task.ensures)) (c.changed_cause.ensures.why told)

pub returns-then-known-place-clause-why : goal.returns-then-known-place-clause-why
returns-then-known-place-clause-why g c told =
    let known = c.args.known.now in
    let within : c.args.place < length known.forced.now = omega (arith, c.requires.place, c.requires.known.forced_are.long) in
    forced_at (g.D.Disk.story c.args.disk.now).held c.args.rows.now known.plan.now known.avail.now known.certain.now known.forced.now c.args.force c.args.place c.task_at-task.result.now c.task_at-task.ensures c.if-not-task.false c.requires.known.forced_are (is_in known.forced.now c.args.place within c.if-known-place.true)

pub returns-clause-why : goal.returns-clause-why
returns-clause-why g c told =
    let known = c.args.known.now in
    let within : c.args.place < length known.forced.now = omega (arith, c.requires.place, c.requires.known.forced_are.long) in
    always_at (g.D.Disk.story c.args.disk.now).held c.args.rows.now known.plan.now known.avail.now known.certain.now known.forced.now c.args.force c.args.place c.task_at-task.result.now c.task_at-task.ensures c.if-not-task.false c.requires.known.forced_are (not_in known.forced.now c.args.place within c.if-known-place.false)
