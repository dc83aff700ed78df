use Rattle.std.proofs.Common.{◌∙◌, sym, refl}
use Rattle.target_plan.proofs.Ascending.{goes_up, ends_up}
use Rattle.target_plan.proofs.sound_lines.are_ascending.Goals as goal

pub loop-rest-preserved : goal.loop-rest-preserved
loop-rest-preserved c =
    goes_up c.loop-rest.rest.now c.args.lines.now c.index-rest-0.result c.index-rest-1.result c.loop-rest-test.true c.index-rest-0.is c.index-rest-1.is (sym c.comes_before.ensures ∙ c.if-not-comes_before.false) c.loop-rest.invariant

pub returns : goal.returns
returns c = (λ t. c.loop-rest.invariant.0 (ends_up c.loop-rest.rest.now c.loop-rest-test.false), λ up. refl)
