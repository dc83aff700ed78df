use Rattle.std.proofs.Common.{◌∙◌, refl}
use Rattle.bb_report.proofs.Fronts.{part_start, part_sliced}
use Rattle.bb_report.proofs.written.write_all.Goals as goal

pub loop-rest-init : goal.loop-rest-init
loop-rest-init g c = record { written = λ told. part_start (g.W.Sink.written c.args.sink.now) c.args.text.now; count = refl }

pub loop-rest-preserved : goal.loop-rest-preserved
loop-rest-preserved g c = record {
  written = λ told. part_sliced (g.W.Sink.written c.args.sink.now) (g.W.Sink.written c.loop-rest.sink) (g.W.Sink.written c.write.new.self) c.args.text.now c.loop-rest.rest.now c.in_ok-taken.taken c.in_ok-taken.ensures.within (c.loop-rest.invariant.written told) (c.in_ok-taken.ensures.taken told);
  count = c.in_ok-taken.ensures.cause.stayed ∙ c.loop-rest.invariant.count;
}
