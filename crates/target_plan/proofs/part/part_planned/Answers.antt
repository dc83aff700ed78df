use Rattle.std.proofs.Common.{◌≡◌, subst, Ok}
use Rattle.std.proofs.lemmas.Result.{IfOk-weaker, IfErr-weaker}
use Rattle.target_graph.specs.Meaning.{asked_meant}
use Rattle.answer_model.specs.Plans.{plan_under}
use Rattle.target_plan.specs.Steps.{IsNoPlanOf}
use Rattle.target_plan.proofs.Parts.{has_part_plan, has_no_part_plan, part_refused}
use Rattle.target_plan.proofs.part.part_planned.Goals as goal

pub returns-in-Ok-clause-ok : goal.returns-in-Ok-clause-ok
returns-in-Ok-clause-ok g c =
    let files = g.L.Layers.files c.args.layers.now in
    let run = c.in-Ok.found in
    IfOk-weaker c.plan_of.result _ _ (λ made is told paths listing.
    has_part_plan files paths c.args.part.now c.args.force (asked_meant run.asked) run.graph run.threads made (c.in-Ok.ensures.ok told paths listing)
    (subst (λ f. plan_under c.args.force f run.asked.set run.graph run.threads ≡ Ok made) c.in-Ok.ensures.same (is told))) c.plan_of.ensures.ok

pub returns-in-Ok-clause-err : goal.returns-in-Ok-clause-err
returns-in-Ok-clause-err g c =
    let files = g.L.Layers.files c.args.layers.now in
    let run = c.in-Ok.found in
    IfErr-weaker c.plan_of.result _ _ (λ status no told paths listing.
    has_no_part_plan files paths c.args.part.now c.args.force (asked_meant run.asked) run.graph run.threads status (c.in-Ok.ensures.ok told paths listing)
    (subst (λ f. IsNoPlanOf (plan_under c.args.force f run.asked.set run.graph run.threads) status) c.in-Ok.ensures.same (no told))) c.plan_of.ensures.err

pub returns-in-Err-clause-err : goal.returns-in-Err-clause-err
returns-in-Err-clause-err g c = λ told paths listing. part_refused (g.L.Layers.files c.args.layers.now) paths c.args.part.now c.args.force c.in-Err.status (c.in-Err.ensures.err told paths listing)
