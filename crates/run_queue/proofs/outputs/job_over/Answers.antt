use Rattle.std.proofs.Common.{◌≡◌, ◌∙◌, ap, subst, Option}
use Rattle.tree_model.specs.Entries.{Entries}
use Rattle.meta_model.specs.CleanBuild.{is_beyond_layout}
use Rattle.run_model.specs.Layouts.{layout_over}
use Rattle.task_worker.specs.declared.given.Job.{Job}
use Rattle.task_worker.specs.Layouts.{IsWithinLayout}
use Rattle.task_worker.specs.OneTask.{job_of, placing_of}
use Rattle.task_worker.proofs.Laid.{one_task, task_read}
use Rattle.run_queue.proofs.outputs.job_over.Goals as goal

pub returns-in_ok-job_over-in-Some-clause-found : goal.returns-in_ok-job_over-in-Some-clause-found
returns-in_ok-job_over-in-Some-clause-found c task at =
    let read = c.index-as_slice-number.result in
    let same = one_task c.args.plan.now.tasks c.args.number read task (task_read c.args.plan.now c.as_slice.result.now c.args.number read c.as_slice.ensures c.requires.number c.index-as_slice-number.is) at in
    let made : ◌≡◌ {A = Job} c.in_ok-job_over-in-Some.field-0 (job_of c.args.number read c.in-Some.layout) = c.in_ok-job_over-in-Some.ensures in
    let within = subst (λ (l : Option Entries). IsWithinLayout (layout_over c.args.plan.now.tasks task c.args.outputs.now) l) c.in-Some.is (c.in_ok-layout.ensures task at) in
    let laid = ap (λ (j : Job). j.layout) made in (
      ap (λ (j : Job). j.script) made ∙ ap (λ t. t.script) same,
      laid ∙ within.0,
      ap (λ (j : Job). j.placing) made ∙ ap placing_of same,
      ap is_beyond_layout (laid ∙ within.0) ∙ within.1,
    )
