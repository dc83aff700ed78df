use Rattle.std.proofs.Common.{sym, ◌∙◌, option_map}
use Rattle.bb_parser.specs.Forms.{fit_of_found}
use Rattle.bb_parser.proofs.StatementFacts.{of_text, of_rest}
use Rattle.bb_parser.proofs.line_statement.statement_of_line.Goals as goal

pub returns-in-Some-clause-err : goal.returns-in-Some-clause-err
returns-in-Some-clause-err c = of_text c.args.kind c.args.text.now c.args.body.now c.args.is_open (option_map fit_of_found c.in-Ok.fit) c.in-Some.fault c.in-Ok.ensures (sym c.fault_of_text.ensures ∙ c.in-Some.is)

pub returns-in-None-clause-ok : goal.returns-in-None-clause-ok
returns-in-None-clause-ok c = rw (of_rest c.args.kind c.args.text.now c.args.body.now c.args.is_open (option_map fit_of_found c.in-Ok.fit) c.in-Ok.ensures (sym c.fault_of_text.ensures ∙ c.in-None.is)) c.allowed_statement.ensures.ok

pub returns-in-None-clause-err : goal.returns-in-None-clause-err
returns-in-None-clause-err c = rw (of_rest c.args.kind c.args.text.now c.args.body.now c.args.is_open (option_map fit_of_found c.in-Ok.fit) c.in-Ok.ensures (sym c.fault_of_text.ensures ∙ c.in-None.is)) c.allowed_statement.ensures.err
