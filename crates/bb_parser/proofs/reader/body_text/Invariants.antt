use Rattle.std.proofs.Common.{◌≡◌, ◌++◌, drop}
use Rattle.meta_model.specs.Statements.{body_of}
use Rattle.bb_parser.proofs.reader.body_text.Given as goal

-- the text so far, and what follows of the body
abbrev pub invariant-loop-line : goal.invariant-loop-line
invariant-loop-line l = l.text ++ body_of (drop l.line-index l.lines) ≡ body_of l.lines
