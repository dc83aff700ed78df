use Rattle.std.proofs.Common.{sym, subst, ℕ, List}
use Rattle.multi_config.specs.Shown.{HasShown}
use Rattle.bitbake_top.proofs.Showing.{told, untold}
use Rattle.bitbake_top.proofs.shown.show_behind.Goals as goal

pub returns-in-Ok-clause-part : goal.returns-in-Ok-clause-part
returns-in-Ok-clause-part g c at base count lt is =
    told g.L.Layers.tells g.W.Sink.tells c.args.what (g.L.Layers.files c.args.layers.now) c.args.part.now at (g.L.Layers.faults c.args.layers.now) (g.L.Layers.faults c.shown_text.new.layers)
    base (g.W.Sink.written c.args.sink.now) (g.W.Sink.written c.print.new.sink) count (g.W.Sink.faults c.args.sink.now) (g.W.Sink.faults c.print.new.sink) c.as_str.result.now c.print.result
    c.print.ensures.status (λ l paths lists. subst (λ (x : List ℕ). HasShown c.args.what (g.L.Layers.files c.args.layers.now) paths c.args.part.now x) (sym c.as_str.ensures) (c.in-Ok.ensures.ok l paths lists)) c.in-Ok.ensures.cause.later lt c.print.ensures.later is c.print.ensures.whole c.print.ensures.front c.print.ensures.cause

pub returns-in-Err-clause-part : goal.returns-in-Err-clause-part
returns-in-Err-clause-part g c at base count lt is =
    untold g.L.Layers.tells g.W.Sink.tells c.args.what (g.L.Layers.files c.args.layers.now) c.args.part.now at (g.L.Layers.faults c.args.layers.now) (g.L.Layers.faults c.shown_text.new.layers)
    base (g.W.Sink.written c.args.sink.now) (g.W.Sink.written c.refuse.new.sink) count (g.W.Sink.faults c.args.sink.now) (g.W.Sink.faults c.refuse.new.sink) c.in-Err.status c.refuse.result
    c.in-Err.ensures.refusal c.refuse.ensures.status c.in-Err.ensures.cause c.in-Err.ensures.err lt c.refuse.ensures.later is c.refuse.ensures.said
