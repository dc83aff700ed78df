use Rattle.bitbake_top.proofs.Drying.{no_plan_at, text_found}
use Rattle.bitbake_top.proofs.dry.dry_run.Goals as goal

pub returns-in-Ok-clause-ok : goal.returns-in-Ok-clause-ok
returns-in-Ok-clause-ok g c =
    text_found g.L.Layers.tells (g.L.Layers.files c.args.layers.now) c.args.request.now c.as_slice.result.now _ c.in-Ok.plan c.dry_text.result c.or_status.result c.as_slice.ensures c.as_ref.ensures.value c.in-Ok.ensures.ok c.dry_text.ensures c.or_status.ensures.ok

pub returns-in-Err-clause-err : goal.returns-in-Err-clause-err
returns-in-Err-clause-err g c told paths lists =
    no_plan_at (g.L.Layers.files c.args.layers.now) paths c.args.request.now c.as_slice.result.now _ c.in-Err.status c.as_slice.ensures c.as_ref.ensures.value (c.in-Err.ensures.err told paths lists)
