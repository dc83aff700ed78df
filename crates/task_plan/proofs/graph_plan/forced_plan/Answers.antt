use Rattle.std.proofs.Common.{◌∙◌, ap, sym, subst, Ok}
use Rattle.meta_model.proofs.Passing.{goes_on}
use Rattle.std.proofs.lemmas.Result.{IfOk-weaker, IfErr-weaker}
use Rattle.plan_model.specs.Plans.{no_sums, forced_plan_of}
use Rattle.task_plan.specs.Faults.{IsPlanFault}
use Rattle.task_plan.specs.Steps.{forced_tasks}
use Rattle.task_plan.proofs.Faulting.{plan_memory, plan_same, plan_on}
use Rattle.task_plan.proofs.Taking.{plan_made, forced_is}
use Rattle.task_plan.proofs.graph_plan.forced_plan.Goals as goal

pub returns-in-Ok-clause-ok : goal.returns-in-Ok-clause-ok
returns-in-Ok-clause-ok g c =
    let files = g.L.Layers.files c.args.layers.now in
    let graph = c.args.graph.now in
    IfOk-weaker c.plan_with.result _ _ (λ made is told.
    forced_is files c.args.set.now graph c.args.threads ∙ goes_on (forced_tasks files c.args.set.now no_sums 0 graph.targets graph.nodes) c.in-Ok.tasks
    (λ tasks. Ok (plan_made graph c.args.threads tasks)) (ap (λ ns. forced_tasks files c.args.set.now no_sums 0 graph.targets ns) (sym c.as_slice-nodes.ensures) ∙ ap (λ ts. forced_tasks files c.args.set.now no_sums 0 ts c.as_slice-nodes.result.now) (sym c.as_slice.ensures) ∙ c.in-Ok.ensures.ok told) ∙ ap Ok (sym is)) c.plan_with.ensures.ok

pub returns-in-Ok-clause-err : goal.returns-in-Ok-clause-err
returns-in-Ok-clause-err g c = IfErr-weaker c.plan_with.result _ _ (λ fault h told. plan_memory fault (forced_plan_of (g.L.Layers.files c.args.layers.now) c.args.set.now c.args.graph.now c.args.threads) h) c.plan_with.ensures.err

pub returns-in-Err-clause-err : goal.returns-in-Err-clause-err
returns-in-Err-clause-err g c = λ told.
    let files = g.L.Layers.files c.args.layers.now in
    let graph = c.args.graph.now in
    plan_same c.in-Err.fault (forced_plan_of files c.args.set.now graph c.args.threads) _ (forced_is files c.args.set.now graph c.args.threads)
    (plan_on c.in-Err.fault (forced_tasks files c.args.set.now no_sums 0 graph.targets graph.nodes) (λ tasks. Ok (plan_made graph c.args.threads tasks))
    (subst (λ ns. IsPlanFault c.in-Err.fault (forced_tasks files c.args.set.now no_sums 0 graph.targets ns)) c.as_slice-nodes.ensures (subst (λ ts. IsPlanFault c.in-Err.fault (forced_tasks files c.args.set.now no_sums 0 ts c.as_slice-nodes.result.now)) c.as_slice.ensures (c.in-Err.ensures.err told))))
