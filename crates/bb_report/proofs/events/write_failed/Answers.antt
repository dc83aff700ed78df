use Rattle.std.proofs.Common.{◌++◌}
use Rattle.std.specs.Prelude.{codes}
use Rattle.run_model.specs.Texts.{task_label}
use Rattle.run_model.specs.Report.{why_text}
use Rattle.bb_report.proofs.Chains.{front_first, on_err_of}
use Rattle.bb_report.proofs.events.write_failed.Goals as goal

pub returns-in_err-write_all-clause-err : goal.returns-in_err-write_all-clause-err
returns-in_err-write_all-clause-err g c = on_err_of c.from_residual.result (λ told. front_first (g.W.Sink.written c.args.sink.now) (g.W.Sink.written c.write_all.new.sink) (codes "failed ") (task_label c.args.id.now ++ why_text c.args.why) (c.in_err-write_all.ensures.err told))
