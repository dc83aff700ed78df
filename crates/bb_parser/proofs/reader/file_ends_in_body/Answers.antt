use Rattle.std.proofs.Common.{◌+◌, drop, sym, ◌∙◌, ap}
use Rattle.meta_model.specs.Statements.{ends_in_body}
use Rattle.bb_parser.proofs.ReadingFacts.{line-and-rest, ends_in_body-end, ends_in_body-next}
use Rattle.bb_parser.proofs.reader.file_ends_in_body.Goals as goal

pub returns-then-not-is_in_body : goal.returns-then-not-is_in_body
returns-then-not-is_in_body c =
    let e = line-and-rest c.args.lines.now c.loop-line.line-index c.line-item.result c.loop-line-test.true c.line-item.is in
    sym (ends_in_body-end c.line-item.result (drop (c.loop-line.line-index + 1) c.args.lines.now) (sym c.is_in_body.ensures ∙ c.if-not-is_in_body.true)) ∙ (ap ends_in_body (sym e) ∙ c.loop-line.invariant)

pub loop-line-preserved : goal.loop-line-preserved
loop-line-preserved c =
    let e = line-and-rest c.args.lines.now c.loop-line.line-index c.line-item.result c.loop-line-test.true c.line-item.is in
    sym (ends_in_body-next c.line-item.result (drop (c.loop-line.line-index + 1) c.args.lines.now) (sym c.is_in_body.ensures ∙ c.if-not-is_in_body.false)) ∙ (ap ends_in_body (sym e) ∙ c.loop-line.invariant)
