use Rattle.bb_parser.specs.Forms.{fit_of_found}
use Rattle.bb_parser.proofs.StatementFacts.{placed_ok, placed_err}
use Rattle.bb_parser.proofs.line_statement.allowed_statement.Goals as goal

pub returns-in-Some-clause-ok : goal.returns-in-Some-clause-ok
returns-in-Some-clause-ok c = rw c.in-Some.is (placed_ok c.args.kind c.args.is_open (fit_of_found c.in-Some.found) c.placed_statement.result c.placed_statement.ensures.ok)

pub returns-in-Some-clause-err : goal.returns-in-Some-clause-err
returns-in-Some-clause-err c = rw c.in-Some.is (placed_err c.args.kind c.args.is_open (fit_of_found c.in-Some.found) c.placed_statement.result c.placed_statement.ensures.err)
