use Rattle.std.proofs.Common.{codes}
use Rattle.meta_model.specs.declared.statement.Statement.TheVariants.{Export}
use Rattle.bb_parser.specs.Forms.{fit_of_found}
use Rattle.bb_parser.proofs.FormFacts.{name-some, name-none}
use Rattle.bb_parser.proofs.forms.export_of_name.Goals as goal

pub returns-in-Some : goal.returns-in-Some
returns-in-Some c = name-some (codes "export") c.args.line.now Export c.in_ok-name.field-0 c.in-Some.name (fit_of_found c.plain.result) c.in_ok-name.ensures c.in-Some.is c.plain.ensures

pub returns-in-None : goal.returns-in-None
returns-in-None c = name-none (codes "export") c.args.line.now Export c.in_ok-name.field-0 c.in_ok-name.ensures c.in-None.is
