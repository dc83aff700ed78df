use Rattle.build_resume.proofs.Reports.{reports_cut}
use Rattle.std.proofs.Common.{inl}
use Rattle.build_resume.proofs.Statuses.{ends_unwritten, unwritten_apart}
use Rattle.build_resume.proofs.ending.tell_unless.Goals as goal

pub returns-then-sink_failed-clause-text : goal.returns-then-sink_failed-clause-text
returns-then-sink_failed-clause-text g c told base before prints counts = reports_cut c.args.plan.now c.args.tale.now base (g.W.Sink.written c.args.sink.now) before (g.W.Sink.faults c.args.sink.now) c.unwritten.result (unwritten_apart c.args.status c.unwritten.result c.unwritten.ensures.plain c.unwritten.ensures.fault) (rw c.if-sink_failed.true at prints) (rw c.if-sink_failed.true at counts)

pub returns-then-sink_failed-clause-ends : goal.returns-then-sink_failed-clause-ends
returns-then-sink_failed-clause-ends g c = ends_unwritten _ c.args.status c.unwritten.result c.unwritten.ensures.plain c.unwritten.ensures.fault (inl c.if-sink_failed.true)
