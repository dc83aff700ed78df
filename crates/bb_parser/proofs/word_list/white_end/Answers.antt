use Rattle.std.proofs.Common.{refl, sym, ◌∙◌, arith}
use Rattle.bb_parser.proofs.WordFacts.{skip_white-more}
use Rattle.bb_parser.proofs.word_list.white_end.Goals as goal

pub loop-at-init : goal.loop-at-init
loop-at-init c = record { within = omega arith; skips = refl }

pub loop-at-preserved : goal.loop-at-preserved
loop-at-preserved c =
    let t = sym c.is_white_space.ensures ∙ c.if-is_white_space.true in
    record { within = omega arith; skips = skip_white-more c.args.line.now c.loop-at.at c.loop-at-test.true t ∙ c.loop-at.invariant.skips }
