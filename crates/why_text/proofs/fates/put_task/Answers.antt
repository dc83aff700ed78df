use Rattle.std.proofs.Common.{◌∙◌, ◌++◌, ap, List, arith}
use Rattle.meta_model.specs.declared.plan.PlanTask.{PlanTask}
use Rattle.setscene_plan.proofs.Sweeping.{is_in}
use Rattle.why_model.specs.Why.{fate_line}
use Rattle.why_text.specs.Telling.{told_of}
use Rattle.why_text.proofs.TaskLines.{one_line}
use Rattle.why_text.proofs.fates.put_task.Goals as goal

pub returns-clause-line : goal.returns-clause-line
returns-clause-line g c told =
    let known = c.args.known.now in
    one_line (told_of (g.D.Disk.story c.args.disk.now).held c.args.rows.now known.plan.now known.avail.now known.certain.now c.args.force) c.args.need.now c.args.place c.task_at.result.now c.in_ok-what.what c.args.text.now c.put_line.new.made c.task_at.ensures
    (is_in c.args.need.now c.args.place (omega (arith, c.requires.place, c.requires.need)) c.if-not-need-place.false)
    (c.in_ok-what.ensures.fate told)
    (c.in_ok-put_line.ensures ∙ ap (λ (ts : List PlanTask). c.args.text.now ++ fate_line ts c.task_at.result.now c.in_ok-what.what) c.as_slice-tasks.ensures)
