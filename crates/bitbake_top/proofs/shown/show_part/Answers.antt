use Rattle.std.proofs.Common.{◌∙◌, ◌++◌, ap, subst, ℕ, List}
use Rattle.run_model.specs.Written.{WritesFront}
use Rattle.multi_config.specs.Configs.{config_line}
use Rattle.bitbake_top.proofs.Showing.{unlined}
use Rattle.bitbake_top.proofs.shown.show_part.Goals as goal

pub returns-in-Ok-clause-part : goal.returns-in-Ok-clause-part
returns-in-Ok-clause-part g c at =
    c.show_behind.ensures.part at (g.W.Sink.written c.args.sink.now) (g.W.Sink.faults c.args.sink.now) c.in-Ok.ensures.cause.later
    (λ told. c.in-Ok.ensures.ok told ∙ ap (λ (m : List ℕ). g.W.Sink.written c.args.sink.now ++ config_line m) c.as_str.ensures)

pub returns-in-Err-clause-part : goal.returns-in-Err-clause-part
returns-in-Err-clause-part g c at =
    unlined g.L.Layers.tells g.W.Sink.tells c.args.what (g.L.Layers.files c.args.layers.now) c.args.part.now at (g.L.Layers.faults c.args.layers.now)
    (g.W.Sink.written c.args.sink.now) (g.W.Sink.written c.write_line.new.sink) (g.W.Sink.faults c.args.sink.now) (g.W.Sink.faults c.write_line.new.sink) c.in-Err.ensures.cause.later c.in-Err.ensures.cause.rose
    (λ told. subst (λ (m : List ℕ). WritesFront (g.W.Sink.written c.args.sink.now) (g.W.Sink.written c.write_line.new.sink) (config_line m)) c.as_str.ensures (c.in-Err.ensures.err told))
