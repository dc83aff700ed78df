use Rattle.std.proofs.Common.{◌∙◌, sym, map}
use Rattle.meta_model.specs.Parts.{joined_with}
use Rattle.var_expand.specs.Standing.{flattened}
use Rattle.var_expand.specs.ReadOn.{held}
use Rattle.var_expand.proofs.Steps.{flat_begins, flat_goes_on, flat_ends, nothing_left}
use Rattle.var_expand.proofs.standing.flat.Goals as goal

pub loop-frame-init : goal.loop-frame-init
loop-frame-init c =
    flat_begins c.args.outer.items c.reverse.new.self.items c.pop.new.self.items c.in-Some.whole c.args.inner c.reverse.ensures.items c.in-Some.ensures.items

pub loop-frame-preserved : goal.loop-frame-preserved
loop-frame-preserved c =
    flat_goes_on c.loop-frame.rest.items c.pop-in-loop-frame.new.self.items c.loop-frame.whole c.in-Some-pop.frame c.in_ok-with_text.field-0 c.in_ok-whole.whole c.args.inner
    (joined_with (flattened (map held c.args.outer.items)) (held c.args.inner)) c.loop-frame.invariant c.in-Some-pop.ensures.items c.in_ok-with_text.ensures c.in_ok-whole.ensures

pub returns : goal.returns
returns c =
    flat_ends c.loop-frame.rest.items c.loop-frame.whole c.in_ok-with_text-2.field-0 c.args.inner (joined_with (flattened (map held c.args.outer.items)) (held c.args.inner)) c.with_frame-2.result
    c.loop-frame.invariant (nothing_left c.loop-frame.rest.items (sym c.loop-frame.rest.ok.0 ∙ c.in_default-pop.ensures.cases.0)) c.in_ok-with_text-2.ensures c.with_frame-2.ensures
