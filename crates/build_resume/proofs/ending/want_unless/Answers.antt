use Rattle.std.proofs.Common.{refl}
use Rattle.meta_model.specs.declared.event.Status.TheVariants as ends
use Rattle.build_resume.proofs.Reports.{reports_cut}
use Rattle.build_resume.proofs.ending.want_unless.Goals as goal

pub returns-then-sink_failed-clause-text : goal.returns-then-sink_failed-clause-text
returns-then-sink_failed-clause-text g c told plan tale base before prints counts = reports_cut plan tale base (g.W.Sink.written c.args.sink.now) before (g.W.Sink.faults c.args.sink.now) ends.WriteFault refl (rw c.if-sink_failed.true at prints) (rw c.if-sink_failed.true at counts)
