use Rattle.std.proofs.Common.{◌∙◌, ◌++◌, ap, subst}
use Rattle.run_model.specs.Written.{WritesFront}
use Rattle.multi_config.specs.Configs.{config_line}
use Rattle.multi_config.specs.Parts.{stands}
use Rattle.bitbake_top.proofs.PartEnds.{line_failed}
use Rattle.bitbake_top.proofs.part.run_part.Goals as goal

pub returns-in-Ok-clause-part : goal.returns-in-Ok-clause-part
returns-in-Ok-clause-part g c =
    c.run_part_behind.ensures.part (g.W.Sink.written c.args.sink) (g.W.Sink.faults c.args.sink) c.in-Ok.ensures.cause.later
    (λ told. c.in-Ok.ensures.ok told ∙ ap (λ m. g.W.Sink.written c.args.sink ++ config_line m) c.as_str.ensures)

pub returns-in-Err-clause-part : goal.returns-in-Err-clause-part
returns-in-Err-clause-part g c =
    line_failed g.L.Layers.tells g.D.Disk.tells g.B.Bench.tells g.W.Sink.tells (g.L.Layers.files c.args.layers) c.args.request.now c.args.part.now
    (stands g.D.Disk.story g.D.Disk.faults g.B.Bench.gives g.B.Bench.place g.B.Bench.faults g.W.Sink.written g.W.Sink.faults (g.L.Layers.faults c.args.layers) c.args.disk c.args.benches.items c.args.sink)
    (g.W.Sink.written c.write_line.new.sink) (g.W.Sink.faults c.write_line.new.sink) c.new.result.items c.new-in-Err.result.items c.new.ensures.items c.new-in-Err.ensures.items c.in-Err.ensures.cause.later c.in-Err.ensures.cause.rose
    (λ told. subst (λ m. WritesFront (g.W.Sink.written c.args.sink) (g.W.Sink.written c.write_line.new.sink) (config_line m)) c.as_str.ensures (c.in-Err.ensures.err told))
