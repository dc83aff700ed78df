use Rattle.std.proofs.Common.{◌∙◌, ap, sym, subst, All, List, ℕ, ◌<◌, length, arith}
use Rattle.std.specs.Option.{option_map}
use Rattle.meta_model.specs.declared.plan.PlanTask.{PlanTask}
use Rattle.task_worker.proofs.Laid.{one_task, task_read}
use Rattle.run_queue.specs.Outputs.{AreFound}
use Rattle.run_queue.proofs.ReadBack.{job_found, job_lacks}
use Rattle.run_queue.proofs.outputs.job_of.Goals as goal

pub outputs_of-requires : goal.outputs_of-requires
outputs_of-requires g c =
    let read = c.index-tasks-number.result in
    let at = task_read c.args.plan.now c.as_slice-tasks.result.now c.args.number read c.as_slice-tasks.ensures c.requires.number c.index-tasks-number.is in
    let below = (c.requires.runnable.tasks c.args.number read at).below in
    subst (λ (l : List ℕ). All (λ d. d < length c.args.plan.now.tasks) l) (sym (c.as_slice-needs.ensures ∙ ap (λ (t : PlanTask). t.deps) (sym c.index-tasks-number.is))) (λ k d lt. let b = below k d lt in let n = c.requires.number in omega arith)

pub returns-in_ok-job_over-in-Some-clause-found : goal.returns-in_ok-job_over-in-Some-clause-found
returns-in_ok-job_over-in-Some-clause-found g c told task at =
    let read = c.index-tasks-number.result in
    let same = one_task c.args.plan.now.tasks c.args.number read task (task_read c.args.plan.now c.as_slice-tasks.result.now c.args.number read c.as_slice-tasks.ensures c.requires.number c.index-tasks-number.is) at in
    job_found c.args.plan.now.tasks task read (g.D.Disk.story c.args.store.now.disk).held c.as_slice-needs.result.now c.in-Some.outputs.items c.as_slice.result.now c.in_ok-job_over-in-Some.field-0 same (c.as_slice-needs.ensures ∙ ap (λ (t : PlanTask). t.deps) (sym c.index-tasks-number.is)) c.as_slice.ensures.value
    (subst (λ f. AreFound c.args.plan.now.tasks c.as_slice-needs.result.now (g.D.Disk.story c.args.store.now.disk).held (option_map (λ v. v.items) f)) c.in-Some.is (c.in_ok-outputs.ensures.found told))
    (c.in_ok-job_over-in-Some.ensures.found task at)

pub returns-in-None-clause-found : goal.returns-in-None-clause-found
returns-in-None-clause-found g c told task at =
    let read = c.index-tasks-number.result in
    let same = one_task c.args.plan.now.tasks c.args.number read task (task_read c.args.plan.now c.as_slice-tasks.result.now c.args.number read c.as_slice-tasks.ensures c.requires.number c.index-tasks-number.is) at in
    job_lacks c.args.plan.now.tasks task read (g.D.Disk.story c.args.store.now.disk).held c.as_slice-needs.result.now same (c.as_slice-needs.ensures ∙ ap (λ (t : PlanTask). t.deps) (sym c.index-tasks-number.is))
    (subst (λ f. AreFound c.args.plan.now.tasks c.as_slice-needs.result.now (g.D.Disk.story c.args.store.now.disk).held (option_map (λ v. v.items) f)) c.in-None.is (c.in_ok-outputs.ensures.found told))
