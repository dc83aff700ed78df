use Rattle.std.proofs.Common.{◌++◌}
use Rattle.bb_report.proofs.Chains.{err_then}
use Rattle.bb_report.proofs.events.write_three.Goals as goal

pub returns-clause-err : goal.returns-clause-err
returns-clause-err g c = err_then c.write_both.result g.W.Sink.tells (g.W.Sink.written c.args.sink.now) (g.W.Sink.written c.write_all.new.sink) (g.W.Sink.written c.write_both.new.sink) c.args.first.now (c.args.second.now ++ c.args.third.now) (λ told. c.in_ok-write_all.ensures.ok told) c.write_both.ensures.err
