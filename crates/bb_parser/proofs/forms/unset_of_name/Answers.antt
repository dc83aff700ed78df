use Rattle.std.proofs.Common.{codes}
use Rattle.meta_model.specs.declared.statement.Statement.TheVariants.{Unset}
use Rattle.bb_parser.specs.Forms.{fit_of_found}
use Rattle.bb_parser.proofs.FormFacts.{name-some, name-none}
use Rattle.bb_parser.proofs.forms.unset_of_name.Goals as goal

pub returns-in-Some : goal.returns-in-Some
returns-in-Some c = name-some (codes "unset") c.args.line.now Unset c.in_ok-name.field-0 c.in-Some.name (fit_of_found c.plain.result) c.in_ok-name.ensures c.in-Some.is c.plain.ensures

pub returns-in-None : goal.returns-in-None
returns-in-None c = name-none (codes "unset") c.args.line.now Unset c.in_ok-name.field-0 c.in_ok-name.ensures c.in-None.is
