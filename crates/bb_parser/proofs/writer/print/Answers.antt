use Rattle.std.proofs.Common.{◌∙◌, subst}
use Rattle.std.specs.Str.{IsUtf8}
use Rattle.meta_model.specs.declared.line.Kind.TheVariants.{Class}
use Rattle.bb_parser.proofs.WrittenTexts.{written-gives, class-allows}
use Rattle.bb_parser.proofs.GivenTexts.{nowhere-err}
use Rattle.bb_parser.proofs.writer.print.Goals as goal

pub returns-clause-text : goal.returns-clause-text
returns-clause-text c = λ kind a. let h = c.in_ok-text.ensures.ok in
    rw h.1 (written-gives kind c.args.statement.now h.0 (subst IsUtf8 (c.as_str-is_text.ensures ∙ h.1) c.as_str-is_text.utf8) a)

pub returns-clause-class : goal.returns-clause-class
returns-clause-class c = let h = c.in_ok-text.ensures.ok in
    rw h.1 (written-gives Class c.args.statement.now h.0 (subst IsUtf8 (c.as_str-is_text.ensures ∙ h.1) c.as_str-is_text.utf8) (class-allows c.args.statement.now h.0))

pub returns-in_err-text-clause-nowhere : goal.returns-in_err-text-clause-nowhere
returns-in_err-text-clause-nowhere c = nowhere-err c.args.statement.now c.from_residual.result c.in_err-text.field-0.0 c.from_residual.ensures.1 c.in_err-text.ensures.err
