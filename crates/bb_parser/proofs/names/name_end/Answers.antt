use Rattle.std.proofs.Common.{◌∙◌, sym, arith, ◌+◌, refl, get_or, codes}
use Rattle.std.proofs.lemmas.List.{take_rest}
use Rattle.std.proofs.lemmas.Str.{IsCharBoundary-start, IsCharBoundary-after_ascii}
use Rattle.bb_parser.proofs.Bounds.{letter_digit_or-ascii}
use Rattle.bb_parser.proofs.NameSearch.{found_behind-next, found_behind-end, named-next, found_behind-start}
use Rattle.bb_parser.proofs.names.name_end.Goals as goal

pub loop-end-init : goal.loop-end-init
loop-end-init c = record { within = omega arith; named = refl; found = found_behind-start c.args.line.now; cut = λ u. IsCharBoundary-start c.args.line.now u }

pub loop-end-preserved : goal.loop-end-preserved
loop-end-preserved c =
    let t = sym c.is_in_name.ensures ∙ c.if-is_in_name.true in
    record {
      within = omega arith;
      named = named-next c.args.line.now c.loop-end.end c.loop-end-test.true c.loop-end.invariant.named t;
      found = c.loop-end.invariant.found ∙ found_behind-next c.args.line.now c.loop-end.end c.loop-end-test.true (rw (take_rest c.args.line.now (c.loop-end.end + 1)) at (sym c.has_operator.ensures ∙ c.if-has_operator.false));
      cut = λ u. IsCharBoundary-after_ascii c.args.line.now c.loop-end.end u c.loop-end-test.true (letter_digit_or-ascii (codes "-_+.${}/~:") (get_or c.args.line.now c.loop-end.end 0) refl t);
    }

pub returns-then-has_operator-clause-cut : goal.returns-then-has_operator-clause-cut
returns-then-has_operator-clause-cut c = let t = sym c.is_in_name.ensures ∙ c.if-is_in_name.true in
    λ u. IsCharBoundary-after_ascii c.args.line.now c.loop-end.end u c.loop-end-test.true (letter_digit_or-ascii (codes "-_+.${}/~:") (get_or c.args.line.now c.loop-end.end 0) refl t)

pub returns-else-is_in_name-clause-shortest : goal.returns-else-is_in_name-clause-shortest
returns-else-is_in_name-clause-shortest c = c.loop-end.invariant.found ∙ found_behind-end c.args.line.now c.loop-end.end c.loop-end-test.true (sym c.is_in_name.ensures ∙ c.if-is_in_name.false)
