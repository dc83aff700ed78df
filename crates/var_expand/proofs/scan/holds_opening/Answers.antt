use Rattle.std.proofs.Common.{◌∙◌, sym, refl, arith}
use Rattle.var_expand.proofs.Seeking.{found_at, passed_at, found_nowhere}
use Rattle.var_expand.proofs.scan.holds_opening.Goals as goal

pub returns-then-opens_at : goal.returns-then-opens_at
returns-then-opens_at c = sym (c.loop-at.invariant ∙ found_at c.loop-at.rest.now c.in-Some.at c.opens_at.result c.in-Some.ensures.first c.opens_at.ensures c.if-opens_at.true)

pub loop-at-preserved : goal.loop-at-preserved
loop-at-preserved c =
    c.loop-at.invariant ∙ passed_at c.loop-at.rest.now c.behind-rest.result.now c.in-Some.at c.opens_at.result c.in-Some.ensures.first c.opens_at.ensures c.if-opens_at.false c.behind-rest.ensures

pub returns : goal.returns
returns c = found_nowhere c.loop-at.rest.now c.in_default.ensures.first ∙ sym c.loop-at.invariant
