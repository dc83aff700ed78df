use Rattle.std.proofs.Common.{sym, subst}
use Rattle.answer_model.specs.Sample.{IsLine, SaysSample}
use Rattle.bitbake_top.proofs.Sampled.{Printed, said_sample}
use Rattle.bitbake_top.proofs.sample.sample.Goals as goal

pub returns-in-Ok-clause-said : goal.returns-in-Ok-clause-said
returns-in-Ok-clause-said g c told =
    let made = c.in-Ok.made in
    let base = g.W.Sink.written c.args.sink.now in
    let now = g.W.Sink.written c.print.new.sink in
    let before = g.W.Sink.faults c.args.sink.now in
    let after = g.W.Sink.faults c.print.new.sink in
    let line = subst (λ text. IsLine c.args.size made.plans.items made.tales.items made.status text) (sym c.as_str.ensures) c.in-Ok.ensures.line in
    let printed : Printed c.as_str.result.now base now before after c.print.result = record { how = c.print.ensures.status; whole = λ e. c.print.ensures.whole e told; rose = c.print.ensures.cause; says = c.print.ensures.said told; front = c.print.ensures.front told } in
    subst (λ s. SaysSample c.args.size made.plans.items made.tales.items s base now before after) (sym c.answer-status.ensures)
    (said_sample c.args.size made.plans.items made.tales.items made.status c.as_str.result.now base now before after c.print.result line c.in-Ok.ensures.ends printed)
