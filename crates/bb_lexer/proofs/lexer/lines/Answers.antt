use Rattle.std.specs.Str.{valid_up_to}
use Rattle.bb_lexer.proofs.Utf8Texts.{logical_lines-text, logical_lines-no_text}
use Rattle.bb_lexer.proofs.lexer.lines.Goals as goal

pub returns-in-Ok-clause-ok : goal.returns-in-Ok-clause-ok
returns-in-Ok-clause-ok c = rw (logical_lines-text c.args.bytes.now c.in-Ok.ensures.cases.1, ← c.in-Ok.ensures.cases.0) c.text_lines.ensures.ok

pub returns-in-Ok-clause-err : goal.returns-in-Ok-clause-err
returns-in-Ok-clause-err c = rw (logical_lines-text c.args.bytes.now c.in-Ok.ensures.cases.1, ← c.in-Ok.ensures.cases.0) c.text_lines.ensures.err

pub returns-in-Err-clause-err : goal.returns-in-Err-clause-err
returns-in-Err-clause-err c = rw c.newlines.ensures.count (rw c.valid_up_to.ensures (logical_lines-no_text c.args.bytes.now (valid_up_to c.in-Err.e) c.in-Err.ensures.valid_len c.in-Err.ensures.cases.1.short))
