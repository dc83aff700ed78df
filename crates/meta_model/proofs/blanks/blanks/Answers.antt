use Rattle.std.proofs.Common.{refl, sym, ◌∙◌, arith, get_or}
use Rattle.std.proofs.lemmas.Str.{IsCharBoundary-start, IsCharBoundary-after_ascii}
use Rattle.meta_model.proofs.Edges.{blank-ascii, skip_blanks-more}
use Rattle.meta_model.proofs.blanks.blanks.Goals as goal

pub loop-at-init : goal.loop-at-init
loop-at-init c = record { within = omega arith; skips = refl; cut = λ u. IsCharBoundary-start c.args.line.now u }

pub loop-at-preserved : goal.loop-at-preserved
loop-at-preserved c =
    let t = sym c.is_a_blank.ensures ∙ c.if-is_a_blank.true in
    record {
      within = omega arith;
      skips = skip_blanks-more c.args.line.now c.loop-at.at c.loop-at-test.true t ∙ c.loop-at.invariant.skips;
      cut = λ u. IsCharBoundary-after_ascii c.args.line.now c.loop-at.at u c.loop-at-test.true (blank-ascii (get_or c.args.line.now c.loop-at.at 0) t);
    }
