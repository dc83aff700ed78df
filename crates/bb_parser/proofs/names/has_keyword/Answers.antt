use Rattle.std.proofs.Common.{◌∙◌, sym, refl, position}
use Rattle.meta_model.specs.Text.{is_colon}
use Rattle.bb_parser.proofs.LateNames.{late-after, late-nowhere}
use Rattle.bb_parser.proofs.names.has_keyword.Goals as goal

pub loop-next-preserved : goal.loop-next-preserved
loop-next-preserved c =
    let h = rw c.in-Some.is at c.after.ensures in
    let e = late-after c.loop-next.rest.now c.in-Some.next.now (position is_colon c.loop-next.rest.now) refl h in
    let k = rw c.up_to.ensures at (sym c.is_keyword.ensures ∙ c.if-is_keyword.false) in
    sym (rw k at e.0) ∙ c.loop-next.invariant

pub loop-next-smaller : goal.loop-next-smaller
loop-next-smaller c =
    let h = rw c.in-Some.is at c.after.ensures in
    (late-after c.loop-next.rest.now c.in-Some.next.now (position is_colon c.loop-next.rest.now) refl h).1

pub returns-then-is_keyword : goal.returns-then-is_keyword
returns-then-is_keyword c =
    let h = rw c.in-Some.is at c.after.ensures in
    let e = late-after c.loop-next.rest.now c.in-Some.next.now (position is_colon c.loop-next.rest.now) refl h in
    let k = rw c.up_to.ensures at (sym c.is_keyword.ensures ∙ c.if-is_keyword.true) in
    sym (rw k at e.0) ∙ c.loop-next.invariant

pub returns : goal.returns
returns c = let h = rw c.in_default.is at c.after.ensures in sym (late-nowhere c.loop-next.rest.now (position is_colon c.loop-next.rest.now) refl h) ∙ c.loop-next.invariant
