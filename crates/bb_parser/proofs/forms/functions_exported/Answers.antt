use Rattle.std.proofs.Common.{codes, Some, refl}
use Rattle.meta_model.specs.declared.statement.Statement.TheVariants.{ExportFunctions}
use Rattle.bb_parser.specs.Forms.{fit_of_found}
use Rattle.bb_parser.proofs.FormFacts.{words-some, words-none}
use Rattle.bb_parser.proofs.forms.functions_exported.Goals as goal

pub returns-in-Some : goal.returns-in-Some
returns-in-Some c = words-some (codes "EXPORT_FUNCTIONS") c.args.line.now (λ ws. Some (ExportFunctions ws)) c.in_ok-names.field-0 c.in-Some.names (Some (ExportFunctions c.in-Some.names)) (ExportFunctions c.in-Some.names) (fit_of_found c.plain.result)
    c.in_ok-names.ensures c.in-Some.is refl refl c.plain.ensures

pub returns-in-None : goal.returns-in-None
returns-in-None c = words-none (codes "EXPORT_FUNCTIONS") c.args.line.now (λ ws. Some (ExportFunctions ws)) c.in_ok-names.field-0 c.in_ok-names.ensures c.in-None.is
