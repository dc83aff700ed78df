use Rattle.bitbake_top.proofs.Showing.{shown_plan, unshown_plan}
use Rattle.bitbake_top.proofs.shown.part_plan_text.Goals as goal

pub returns-in-Ok-clause-ok : goal.returns-in-Ok-clause-ok
returns-in-Ok-clause-ok g c = shown_plan g.L.Layers.tells (g.L.Layers.files c.args.layers.now) c.args.part.now c.in-Ok.plan c.dry_text.result c.or_status.result c.in-Ok.ensures.ok c.dry_text.ensures c.or_status.ensures.ok

pub returns-in-Err-clause-err : goal.returns-in-Err-clause-err
returns-in-Err-clause-err g c = λ told paths lists. unshown_plan (g.L.Layers.files c.args.layers.now) paths c.args.part.now c.in-Err.status (c.in-Err.ensures.err told paths lists)
