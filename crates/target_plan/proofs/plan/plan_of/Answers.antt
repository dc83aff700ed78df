use Rattle.std.proofs.Common.{◌∙◌, sym, subst, Bool, true, false, IfErr}
use Rattle.task_plan.specs.Faults.{IsPlanFault}
use Rattle.answer_model.specs.Plans.{plan_under}
use Rattle.target_plan.proofs.Planned.{status_told}
use Rattle.target_plan.proofs.plan.plan_of.Goals.{then-force, else-force}
use Rattle.target_plan.proofs.plan.plan_of.Goals as goal

pub returns-in-Err-clause-err : goal.returns-in-Err-clause-err
returns-in-Err-clause-err g c = λ told.
    let files = g.L.Layers.files c.args.layers.now in
    let set = c.args.found.now.asked.set in
    let graph = c.args.found.now.graph in
    let threads = c.args.found.now.threads in
    let fault = c.in-Err.fault in
    status_told fault c.plan_status.result (plan_under c.args.force files set graph threads) c.plan_status.ensures.told (elim c.if-force.branch [
      | then-force w ↦ subst (λ (b : Bool). IsPlanFault fault (plan_under b files set graph threads)) (sym w.if-force.true) (subst (λ r. IfErr r (λ f. g.L.Layers.tells → IsPlanFault f (plan_under true files set graph threads))) (sym w.made-is ∙ c.in-Err.is) w.forced_plan-made.ensures.err told)
      | else-force w ↦ subst (λ (b : Bool). IsPlanFault fault (plan_under b files set graph threads)) (sym w.if-force.false) (subst (λ r. IfErr r (λ f. g.L.Layers.tells → IsPlanFault f (plan_under false files set graph threads))) (sym w.made-is ∙ c.in-Err.is) w.plan-made.ensures.err told)
    ])
