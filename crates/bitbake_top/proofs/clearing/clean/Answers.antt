use Rattle.std.specs.Prelude.{Some}
use Rattle.meta_model.specs.declared.plan.Plan.{Plan}
use Rattle.answer_model.specs.Run.{IsRunPlan}
use Rattle.bitbake_top.specs.Clean.{DidClean}
use Rattle.bitbake_top.proofs.CleanAnswers.{at_targets, unasked_clean, unasked_status, unasked_usage}
use Rattle.bitbake_top.proofs.clearing.clean.Goals as goal

pub returns-in-Ok-clause-did : goal.returns-in-Ok-clause-did
returns-in-Ok-clause-did g c request asks l paths lists plan planned =
    at_targets
    (λ r. (p : Plan) → IsRunPlan (g.L.Layers.files c.args.layers.now) paths r p → DidClean (Some p) c.args.limit c.args.dry g.D.Disk.tells g.W.Sink.tells (g.D.Disk.story c.args.disk.now) (g.D.Disk.story c.clean_run.new.disk) c.clean_run.result.cleaned c.clean_run.result.status (g.W.Sink.written c.args.sink.now) (g.W.Sink.written c.clean_run.new.sink))
    c.args.words.now c.in-Ok.request c.in-Ok.ensures.ok (λ p is. c.clean_run.ensures.did l paths lists p is) request asks plan planned

pub returns-in-Ok-clause-refused : goal.returns-in-Ok-clause-refused
returns-in-Ok-clause-refused g c some none = absurd (none c.in-Ok.request c.in-Ok.ensures.ok)

pub returns-in-Err-clause-has : goal.returns-in-Err-clause-has
returns-in-Err-clause-has g c request asks l paths lists = unasked_status c.args.words.now c.in-Err.status c.refuse.result c.in-Err.ensures.err c.refuse.ensures.status (g.L.Layers.files c.args.layers.now) paths request asks

pub returns-in-Err-clause-did : goal.returns-in-Err-clause-did
returns-in-Err-clause-did g c request asks l paths lists plan planned =
    unasked_clean c.args.words.now c.in-Err.status c.refuse.result c.in-Err.ensures.err c.refuse.ensures.status (Some plan) c.args.limit c.args.dry g.D.Disk.tells g.W.Sink.tells (g.D.Disk.story c.args.disk.now) (g.W.Sink.written c.args.sink.now) (g.W.Sink.written c.refuse.new.sink)

pub returns-in-Err-clause-usage : goal.returns-in-Err-clause-usage
returns-in-Err-clause-usage g c request asks = unasked_usage c.args.words.now c.in-Err.status c.refuse.result c.in-Err.ensures.err c.refuse.ensures.status request asks
