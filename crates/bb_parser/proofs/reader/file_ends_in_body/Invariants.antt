use Rattle.std.proofs.Common.{◌≡◌, drop}
use Rattle.meta_model.specs.Statements.{ends_in_body}
use Rattle.bb_parser.proofs.reader.file_ends_in_body.Given as goal

-- so far all were lines of the body
abbrev pub invariant-loop-line : goal.invariant-loop-line
invariant-loop-line l = ends_in_body (drop l.line-index l.lines) ≡ ends_in_body l.lines
