use Rattle.std.proofs.Common.{◌∙◌, ap, sym, ◌∷◌, [], Ok, codes}
use Rattle.meta_model.specs.declared.entry.Op.TheVariants.{Set}
use Rattle.meta_model.specs.Names.{first_part}
use Rattle.meta_model.specs.Entries.{assignment_line, lines_of, set_flag}
use Rattle.load_model.specs.Loading.{with_lines}
use Rattle.class_inherit.specs.Adding.{added}
use Rattle.class_inherit.proofs.Adding.{on_told}
use Rattle.class_inherit.proofs.entries.add_statement.Goals as goal

pub returns-in-Export-clause-ok : goal.returns-in-Export-clause-ok
returns-in-Export-clause-ok c =
    on_told c.add_flag.result c.told.result c.told.ensures.ok c.add_flag.ensures
    (λ h. ap (λ s. added c.args.reading.now (lines_of c.args.class.now c.args.reading.now.lines s)) c.in-Export.is
    ∙ ap (λ n. Ok (with_lines (set_flag n (codes "export") ∷ []) c.args.reading.now)) (sym c.as_str-in-Export.ensures) ∙ ap Ok (sym h))

pub returns-in-Unset-clause-ok : goal.returns-in-Unset-clause-ok
returns-in-Unset-clause-ok c =
    on_told c.add_unset.result c.told-in-Unset.result c.told-in-Unset.ensures.ok c.add_unset.ensures
    (λ h. ap (λ s. added c.args.reading.now (lines_of c.args.class.now c.args.reading.now.lines s)) c.in-Unset.is ∙ ap Ok (sym h))

pub returns-in-UnsetFlag-clause-ok : goal.returns-in-UnsetFlag-clause-ok
returns-in-UnsetFlag-clause-ok c =
    on_told c.add_unset_flag.result c.told-in-UnsetFlag.result c.told-in-UnsetFlag.ensures.ok c.add_unset_flag.ensures
    (λ h. ap (λ s. added c.args.reading.now (lines_of c.args.class.now c.args.reading.now.lines s)) c.in-UnsetFlag.is ∙ ap Ok (sym h))

pub returns-in-Function-clause-ok : goal.returns-in-Function-clause-ok
returns-in-Function-clause-ok c =
    on_told c.add_function.result c.told-in-Function.result c.told-in-Function.ensures.ok c.add_function.ensures
    (λ h. ap (λ s. added c.args.reading.now (lines_of c.args.class.now c.args.reading.now.lines s)) c.in-Function.is
    ∙ ap (λ n. Ok (with_lines (assignment_line n Set c.in-Function.body ∷ set_flag (first_part n) (codes "func") ∷ []) c.args.reading.now)) (sym c.as_str-in-Function.ensures) ∙ ap Ok (sym h))

pub returns-in-ExportFunctions-clause-ok : goal.returns-in-ExportFunctions-clause-ok
returns-in-ExportFunctions-clause-ok c =
    on_told c.add_exports.result c.told-in-ExportFunctions.result c.told-in-ExportFunctions.ensures.ok c.add_exports.ensures
    (λ h. ap (λ s. added c.args.reading.now (lines_of c.args.class.now c.args.reading.now.lines s)) c.in-ExportFunctions.is ∙ ap Ok (sym h))

pub returns-in-AddTask-clause-ok : goal.returns-in-AddTask-clause-ok
returns-in-AddTask-clause-ok c =
    on_told c.add_tasks.result c.told-in-AddTask.result c.told-in-AddTask.ensures.ok c.add_tasks.ensures
    (λ h. ap (λ s. added c.args.reading.now (lines_of c.args.class.now c.args.reading.now.lines s)) c.in-AddTask.is ∙ ap Ok (sym h))

pub returns-in-DelTask-clause-ok : goal.returns-in-DelTask-clause-ok
returns-in-DelTask-clause-ok c =
    on_told c.add_no_tasks.result c.told-in-DelTask.result c.told-in-DelTask.ensures.ok c.add_no_tasks.ensures
    (λ h. ap (λ s. added c.args.reading.now (lines_of c.args.class.now c.args.reading.now.lines s)) c.in-DelTask.is ∙ ap Ok (sym h))
