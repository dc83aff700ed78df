use Rattle.bitbake_top.proofs.Whying.{clash_at, front_at, planned_why, prints_at, refused_clash, refused_why}
use Rattle.bitbake_top.proofs.reasons.why_run.Goals as goal

pub returns-in-Ok-clause-has : goal.returns-in-Ok-clause-has
returns-in-Ok-clause-has g c l paths lists =
    planned_why c.why_plan.result.status (g.L.Layers.files c.args.layers.now) paths c.args.request.now c.why_plan.ensures.status (c.in-Ok.plan, c.in-Ok.ensures.ok l paths lists)

pub returns-in-Ok-clause-text : goal.returns-in-Ok-clause-text
returns-in-Ok-clause-text g c l d w paths lists plan planned ok =
    prints_at (g.L.Layers.files c.args.layers.now) paths c.args.request.now c.in-Ok.plan plan (g.D.Disk.story c.args.disk).held _ _ lists (c.in-Ok.ensures.ok l paths lists) planned (c.why_plan.ensures.text d w ok)

pub returns-in-Ok-clause-front : goal.returns-in-Ok-clause-front
returns-in-Ok-clause-front g c l d w paths lists plan planned failed =
    front_at (g.L.Layers.files c.args.layers.now) paths c.args.request.now c.in-Ok.plan plan (g.D.Disk.story c.args.disk).held _ _ lists (c.in-Ok.ensures.ok l paths lists) planned (c.why_plan.ensures.front d w failed)

pub returns-in-Err-clause-has : goal.returns-in-Err-clause-has
returns-in-Err-clause-has g c l paths lists =
    refused_why c.in-Err.status c.refuse.result (g.L.Layers.files c.args.layers.now) paths c.args.request.now c.in-Err.ensures.refusal (c.in-Err.ensures.err l paths lists) c.refuse.ensures.status

pub returns-in-Ok-clause-clash : goal.returns-in-Ok-clause-clash
returns-in-Ok-clause-clash g c l paths lists plan planned =
    clash_at (g.L.Layers.files c.args.layers.now) paths c.args.request.now c.in-Ok.plan plan c.why_plan.result.status lists (c.in-Ok.ensures.ok l paths lists) planned c.why_plan.ensures.clash

pub returns-in-Err-clause-clash : goal.returns-in-Err-clause-clash
returns-in-Err-clause-clash g c l paths lists plan planned = refused_clash plan c.in-Err.status c.refuse.result c.in-Err.ensures.refusal c.refuse.ensures.status
