use Rattle.run_model.specs.Texts.{task_label}
use Rattle.bb_report.proofs.Chains.{err_then, front_first, on_err_of}
use Rattle.bb_report.proofs.events.write_rest.Goals as goal

pub returns-in_err-write_label-clause-err : goal.returns-in_err-write_label-clause-err
returns-in_err-write_label-clause-err g c = on_err_of c.from_residual.result (λ told. front_first (g.W.Sink.written c.args.sink.now) (g.W.Sink.written c.write_label.new.sink) (task_label c.args.id.now) c.args.end.now (c.in_err-write_label.ensures.err told))

pub returns-clause-err : goal.returns-clause-err
returns-clause-err g c = err_then c.write_all.result g.W.Sink.tells (g.W.Sink.written c.args.sink.now) (g.W.Sink.written c.write_label.new.sink) (g.W.Sink.written c.write_all.new.sink) (task_label c.args.id.now) c.args.end.now (λ told. c.in_ok-write_label.ensures.ok told) c.write_all.ensures.err
