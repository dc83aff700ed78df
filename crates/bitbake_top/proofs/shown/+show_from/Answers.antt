use Rattle.std.proofs.Common.{◌∙◌, sym, subst}
use Rattle.plan_model.specs.Inputs.{Files}
use Rattle.multi_config.specs.Parts.{Standing}
use Rattle.multi_config.specs.Shown.{stands_at}
use Rattle.bitbake_top.specs.Parts.{ShownParts}
use Rattle.bitbake_top.proofs.Showing.{last_shown, more_shown}
use Rattle.bitbake_top.proofs.shown.+show_from.Goals as goal

pub returns-then-not-goes_on-clause-parts : goal.returns-then-not-goes_on-clause-parts
returns-then-not-goes_on-clause-parts g t c at =
    last_shown g.L.Layers.tells g.W.Sink.tells c.args.what (g.L.Layers.files c.args.layers.now) c.in-Some.part.now c.in-Some.rest.now c.args.parts.now
    (stands_at (g.L.Layers.faults c.args.layers.now) (g.W.Sink.written c.args.sink.now) (g.W.Sink.faults c.args.sink.now) at)
    (stands_at (g.L.Layers.faults c.show_part-status.new.layers) (g.W.Sink.written c.show_part-status.new.sink) (g.W.Sink.faults c.show_part-status.new.sink) at)
    c.show_part-status.result c.in-Some.ensures.cases.0 (c.show_part-status.ensures.part at) (sym c.goes_on.ensures ∙ c.if-not-goes_on.true)

pub returns-else-not-goes_on-clause-parts : goal.returns-else-not-goes_on-clause-parts
returns-else-not-goes_on-clause-parts g t c at =
    let before : Standing = stands_at (g.L.Layers.faults c.args.layers.now) (g.W.Sink.written c.args.sink.now) (g.W.Sink.faults c.args.sink.now) at in
    let mid : Standing = stands_at (g.L.Layers.faults c.show_part-status.new.layers) (g.W.Sink.written c.show_part-status.new.sink) (g.W.Sink.faults c.show_part-status.new.sink) at in
    let now : Standing = stands_at (g.L.Layers.faults c.show_from.new.layers) (g.W.Sink.written c.show_from.new.sink) (g.W.Sink.faults c.show_from.new.sink) at in
    more_shown g.L.Layers.tells g.W.Sink.tells c.args.what (g.L.Layers.files c.args.layers.now) c.in-Some.part.now c.in-Some.rest.now c.args.parts.now before mid now
    c.show_part-status.result c.show_from.result c.in-Some.ensures.cases.0 (c.show_part-status.ensures.part at) (sym c.goes_on.ensures ∙ c.if-not-goes_on.false)
    (subst (λ (f : Files). ShownParts g.L.Layers.tells g.W.Sink.tells c.args.what f c.in-Some.rest.now mid now c.show_from.result) c.show_part-status.ensures.files (c.show_from.ensures.parts at))
