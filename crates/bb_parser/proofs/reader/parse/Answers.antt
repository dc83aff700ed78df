use Rattle.bb_parser.proofs.ReadingFacts.{statements-lines, fault_of_lexer}
use Rattle.bb_parser.proofs.reader.parse.Goals as goal

pub returns-in-Ok-clause-statements : goal.returns-in-Ok-clause-statements
returns-in-Ok-clause-statements c = rw (statements-lines c.args.kind c.args.bytes.now c.in-Ok.found c.in-Ok.ensures.ok) (rw c.as_slice.ensures at c.statements_of.ensures.ok)

pub returns-in-Ok-clause-fault : goal.returns-in-Ok-clause-fault
returns-in-Ok-clause-fault c = rw (statements-lines c.args.kind c.args.bytes.now c.in-Ok.found c.in-Ok.ensures.ok) (rw c.as_slice.ensures at c.statements_of.ensures.err)

pub returns-in-Err-clause-fault : goal.returns-in-Err-clause-fault
returns-in-Err-clause-fault c = fault_of_lexer c.args.kind c.args.bytes.now c.in-Err.fault c.fault_of_lines.result c.fault_of_lines.ensures.line c.fault_of_lines.ensures.kind c.in-Err.ensures.err
