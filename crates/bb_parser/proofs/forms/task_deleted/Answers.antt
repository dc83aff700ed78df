use Rattle.std.proofs.Common.{codes}
use Rattle.meta_model.specs.Grammar.{task_names}
use Rattle.bb_parser.specs.Forms.{fit_of_found}
use Rattle.bb_parser.proofs.FormFacts.{words-some}
use Rattle.bb_parser.proofs.forms.task_deleted.Goals as goal

pub returns-in-Some-2 : goal.returns-in-Some-2
returns-in-Some-2 c = words-some (codes "deltask") c.args.line.now task_names c.in_ok-list.field-0 c.in-Some.list c.in_ok-statement.field-0 c.in-Some-2.statement (fit_of_found c.plain.result)
    c.in_ok-list.ensures c.in-Some.is (rw c.as_slice.ensures at c.in_ok-statement.ensures) c.in-Some-2.is c.plain.ensures
