use Rattle.std.proofs.Common.{codes}
use Rattle.meta_model.specs.declared.statement.Statement.TheVariants.{Include}
use Rattle.bb_parser.specs.Forms.{fit_of_found}
use Rattle.bb_parser.proofs.FormFacts.{text-some, text-none}
use Rattle.bb_parser.proofs.forms.included.Goals as goal

pub returns-in-Some : goal.returns-in-Some
returns-in-Some c = text-some (codes "include") c.args.line.now Include c.in_ok-path.field-0 c.in-Some.path (fit_of_found c.plain.result) c.in_ok-path.ensures c.in-Some.is c.plain.ensures

pub returns-in-None : goal.returns-in-None
returns-in-None c = text-none (codes "include") c.args.line.now Include c.in_ok-path.field-0 c.in_ok-path.ensures c.in-None.is
