use Rattle.meta_model.specs.declared.plan.Plan.{Plan}
use Rattle.answer_model.specs.Run.{IsRunPlan}
use Rattle.why_model.specs.Answered.{Prints, PrintsFront, ToldClash}
use Rattle.bitbake_top.proofs.Whying.{at_run, unasked_clash}
use Rattle.bitbake_top.proofs.asking.why.Goals as goal

pub returns-in-Ok-clause-text : goal.returns-in-Ok-clause-text
returns-in-Ok-clause-text g c request asks l d w paths lists plan planned ok =
    at_run (λ r. (p : Plan) → IsRunPlan (g.L.Layers.files c.args.layers.now) paths r p → Prints r p (g.D.Disk.story c.args.disk).held (g.W.Sink.written c.args.sink.now) (g.W.Sink.written c.why_run.new.sink)) c.args.words.now c.in-Ok.request c.in-Ok.ensures.ok
    (λ p is. c.why_run.ensures.text l d w paths lists p is ok) request asks plan planned

pub returns-in-Ok-clause-front : goal.returns-in-Ok-clause-front
returns-in-Ok-clause-front g c request asks l d w paths lists plan planned failed =
    at_run (λ r. (p : Plan) → IsRunPlan (g.L.Layers.files c.args.layers.now) paths r p → PrintsFront r p (g.D.Disk.story c.args.disk).held (g.W.Sink.written c.args.sink.now) (g.W.Sink.written c.why_run.new.sink)) c.args.words.now c.in-Ok.request c.in-Ok.ensures.ok
    (λ p is. c.why_run.ensures.front l d w paths lists p is failed) request asks plan planned

pub returns-in-Ok-clause-clash : goal.returns-in-Ok-clause-clash
returns-in-Ok-clause-clash g c request asks l paths lists plan planned =
    at_run (λ r. (p : Plan) → IsRunPlan (g.L.Layers.files c.args.layers.now) paths r p → ToldClash p c.why_run.result.status) c.args.words.now c.in-Ok.request c.in-Ok.ensures.ok
    (λ p is. c.why_run.ensures.clash l paths lists p is) request asks plan planned

pub returns-in-Err-clause-clash : goal.returns-in-Err-clause-clash
returns-in-Err-clause-clash g c request asks l paths lists plan planned = unasked_clash plan c.args.words.now c.in-Err.status c.refuse.result c.in-Err.ensures.err c.refuse.ensures.status
