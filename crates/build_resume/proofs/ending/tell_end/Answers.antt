use Rattle.std.proofs.Common.{◌≡◌, ◌∙◌, subst, List, ℕ, inr}
use Rattle.run_model.specs.Report.{last_line, tale_text}
use Rattle.run_model.specs.Written.{WritesFront}
use Rattle.bb_report.proofs.Chains.{front_then}
use Rattle.build_resume.proofs.Statuses.{ends_unwritten, unwritten_apart}
use Rattle.build_resume.proofs.ending.tell_end.Goals as goal

pub returns-in-Ok-clause-text : goal.returns-in-Ok-clause-text
returns-in-Ok-clause-text g c told base is =
    let text : c.as_bytes.result.now ≡ last_line c.args.plan.now c.args.tale.now c.args.status = c.as_bytes.ensures.value ∙ c.as_str.ensures ∙ c.in-Ok.ensures in
    let front = subst (λ (l : List ℕ). WritesFront (g.W.Sink.written c.args.sink.now) (g.W.Sink.written c.write_all.new.sink) l) text (c.in-Err-write_all.ensures.err told) in
    inr (c.in-Err-write_all.ensures.cause.rose, unwritten_apart c.args.status c.unwritten.result c.unwritten.ensures.plain c.unwritten.ensures.fault, (c.args.status, front_then base (g.W.Sink.written c.args.sink.now) (g.W.Sink.written c.write_all.new.sink) (tale_text c.args.plan.now.tasks c.args.tale.now) (last_line c.args.plan.now c.args.tale.now c.args.status) is front))

pub returns-in-Ok-clause-ends : goal.returns-in-Ok-clause-ends
returns-in-Ok-clause-ends g c = ends_unwritten _ c.args.status c.unwritten.result c.unwritten.ensures.plain c.unwritten.ensures.fault c.in-Err-write_all.ensures.cause.rose
