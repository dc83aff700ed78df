use Rattle.std.proofs.Common.{◌++◌, ◌+◌, drop, sym, ◌∙◌, ap, append-nil, append_assoc}
use Rattle.meta_model.specs.Statements.{body_of}
use Rattle.bb_parser.proofs.ReadingFacts.{line-and-rest, body_of-end, body_of-next}
use Rattle.bb_parser.proofs.reader.body_text.Goals as goal

pub returns-then-not-is_in_body : goal.returns-then-not-is_in_body
returns-then-not-is_in_body c =
    let e = line-and-rest c.args.lines.now c.loop-line.line-index c.line-item.result c.loop-line-test.true c.line-item.is in
    let b = ap body_of e ∙ body_of-end c.line-item.result (drop (c.loop-line.line-index + 1) c.args.lines.now) (sym c.is_in_body.ensures ∙ c.if-not-is_in_body.true) in
    sym (append-nil c.loop-line.text) ∙ (ap (λ x. c.loop-line.text ++ x) (sym b) ∙ c.loop-line.invariant)

pub loop-line-preserved : goal.loop-line-preserved
loop-line-preserved c =
    let e = line-and-rest c.args.lines.now c.loop-line.line-index c.line-item.result c.loop-line-test.true c.line-item.is in
    let b = ap body_of e ∙ body_of-next c.line-item.result (drop (c.loop-line.line-index + 1) c.args.lines.now) (sym c.is_in_body.ensures ∙ c.if-not-is_in_body.false) in
    rw (c.in_ok-push_str-2.ensures.ok, c.in_ok-push_str.ensures.ok, c.as_str.ensures, append_assoc, append_assoc) (ap (λ x. c.loop-line.text ++ x) (sym b) ∙ c.loop-line.invariant)
