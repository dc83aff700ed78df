use Rattle.std.proofs.Common.{sym, ap, ◌∙◌, ◌&&◌}
use Rattle.bb_parser.specs.Written.{are_whole_lines}
use Rattle.bb_parser.proofs.WritableFacts.{whole-split, whole-none, nonempty, split-shorter}
use Rattle.bb_parser.proofs.writable.are_body_lines.Goals as goal

pub returns-in_default : goal.returns-in_default
returns-in_default c = let e = rw c.in_default.is at c.line_and_rest.ensures in
    sym (whole-none c.loop-rest.rest.now (nonempty c.loop-rest.rest.now c.is_empty.result c.is_empty.ensures c.loop-rest-test.true) e) ∙ c.loop-rest.invariant

pub returns-then-not-is_in_body : goal.returns-then-not-is_in_body
returns-then-not-is_in_body c = let e = rw c.in-Some.is at c.line_and_rest.ensures in
    sym (whole-split c.loop-rest.rest.now c.in-Some.line.now c.in-Some.next.now e ∙ ap (λ b. b && are_whole_lines c.in-Some.next.now) (sym c.is_in_body.ensures ∙ c.if-not-is_in_body.true)) ∙ c.loop-rest.invariant

pub loop-rest-preserved : goal.loop-rest-preserved
loop-rest-preserved c = let e = rw c.in-Some.is at c.line_and_rest.ensures in
    sym (whole-split c.loop-rest.rest.now c.in-Some.line.now c.in-Some.next.now e ∙ ap (λ b. b && are_whole_lines c.in-Some.next.now) (sym c.is_in_body.ensures ∙ c.if-not-is_in_body.false)) ∙ c.loop-rest.invariant

pub loop-rest-smaller : goal.loop-rest-smaller
loop-rest-smaller c = let e = rw c.in-Some.is at c.line_and_rest.ensures in split-shorter 10 c.loop-rest.rest.now c.in-Some.line.now c.in-Some.next.now e
