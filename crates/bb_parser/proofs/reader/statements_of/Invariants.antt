use Rattle.std.proofs.Common.{◌≡◌, drop}
use Rattle.meta_model.specs.Statements.{statements_of_lines}
use Rattle.bb_parser.specs.Reading.{onto}
use Rattle.bb_parser.proofs.reader.statements_of.Given as goal

-- the statements so far, and what is found in the lines that are left
abbrev pub invariant-loop-at : goal.invariant-loop-at
invariant-loop-at l = onto l.list (statements_of_lines l.kind (drop l.at l.lines)) ≡ statements_of_lines l.kind l.lines
