use Rattle.std.proofs.Common.{sym, ◌∙◌}
use Rattle.bb_parser.specs.Forms.{fit_of_found}
use Rattle.bb_parser.proofs.FormFacts.{fit_of-opens, fit_of-value, fit_of-directive}
use Rattle.bb_parser.proofs.forms.first_fit.Goals as goal

pub returns-then-opens : goal.returns-then-opens
returns-then-opens c = rw (fit_of-opens c.args.text.now c.args.body.now (sym c.opens.ensures ∙ c.if-opens.true)) (rw c.skipped-line.ensures at c.function.ensures)

pub returns-in-Some : goal.returns-in-Some
returns-in-Some c = fit_of-value c.args.text.now c.args.body.now (fit_of_found c.in-Some.fit) (sym c.opens.ensures ∙ c.if-opens.false) (rw (c.skipped-line.ensures, c.in-Some.is) at c.in_ok-fit.ensures)

pub returns-in-None : goal.returns-in-None
returns-in-None c = rw (fit_of-directive c.args.text.now c.args.body.now (sym c.opens.ensures ∙ c.if-opens.false) (rw (c.skipped-line.ensures, c.in-None.is) at c.in_ok-fit.ensures)) (rw c.skipped-line.ensures at c.directive_forms.ensures)
