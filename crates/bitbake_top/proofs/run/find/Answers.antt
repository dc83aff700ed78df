use Rattle.bitbake_top.proofs.Found.{plan_by, unrun_by}
use Rattle.bitbake_top.proofs.run.find.Goals as goal

pub returns-clause-ok : goal.returns-clause-ok
returns-clause-ok g c =
    plan_by g.L.Layers.tells (g.L.Layers.files c.args.layers.now) c.args.request.now c.as_slice.result.now _ c.find_plan.result c.as_slice.ensures c.as_ref.ensures.value c.find_plan.ensures.ok

pub returns-clause-err : goal.returns-clause-err
returns-clause-err g c =
    unrun_by g.L.Layers.tells (g.L.Layers.files c.args.layers.now) c.args.request.now c.as_slice.result.now _ c.find_plan.result c.as_slice.ensures c.as_ref.ensures.value c.find_plan.ensures.err
