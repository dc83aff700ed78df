use Rattle.std.proofs.Common.{◌≡◌, length}
use Rattle.bb_report.proofs.Fronts.{IsPartWritten}
use Rattle.bb_report.proofs.written.write_all.Given as goal

-- the text up to the rest is written
abbrev pub invariant-loop-rest : goal.invariant-loop-rest
invariant-loop-rest g l = record {
  written : g.W.Sink.tells → IsPartWritten (g.W.Sink.written l.fn.sink) (g.W.Sink.written l.sink) l.text l.rest;
  count : g.W.Sink.faults l.sink ≡ g.W.Sink.faults l.fn.sink;
}

abbrev pub decreases-loop-rest : goal.decreases-loop-rest
decreases-loop-rest g l = length l.rest
