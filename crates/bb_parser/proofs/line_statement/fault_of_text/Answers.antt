use Rattle.std.proofs.Common.{sym, ◌∙◌, refl}
use Rattle.bb_parser.proofs.line_statement.fault_of_text.Goals as goal

pub returns-then-is_python_line : goal.returns-then-is_python_line
returns-then-is_python_line c = rw (sym c.is_python_line.ensures ∙ c.if-is_python_line.true) refl

pub returns-then-begins_fakeroot : goal.returns-then-begins_fakeroot
returns-then-begins_fakeroot c = rw (sym c.is_python_line.ensures ∙ c.if-is_python_line.false, rw c.as_bytes.ensures.value at (sym c.begins_fakeroot.ensures ∙ c.if-begins_fakeroot.true)) refl

pub returns-then-has_one_quote : goal.returns-then-has_one_quote
returns-then-has_one_quote c = rw (sym c.is_python_line.ensures ∙ c.if-is_python_line.false, rw c.as_bytes.ensures.value at (sym c.begins_fakeroot.ensures ∙ c.if-begins_fakeroot.false), sym c.has_one_quote.ensures ∙ c.if-has_one_quote.true) refl

pub returns-then-has_set_name : goal.returns-then-has_set_name
returns-then-has_set_name c = rw (sym c.is_python_line.ensures ∙ c.if-is_python_line.false, rw c.as_bytes.ensures.value at (sym c.begins_fakeroot.ensures ∙ c.if-begins_fakeroot.false), sym c.has_one_quote.ensures ∙ c.if-has_one_quote.false, sym c.has_set_name.ensures ∙ c.if-has_set_name.true) refl

pub returns-else-has_set_name : goal.returns-else-has_set_name
returns-else-has_set_name c = rw (sym c.is_python_line.ensures ∙ c.if-is_python_line.false, rw c.as_bytes.ensures.value at (sym c.begins_fakeroot.ensures ∙ c.if-begins_fakeroot.false), sym c.has_one_quote.ensures ∙ c.if-has_one_quote.false, sym c.has_set_name.ensures ∙ c.if-has_set_name.false) refl
