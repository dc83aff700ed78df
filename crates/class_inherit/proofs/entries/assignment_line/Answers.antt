use Rattle.std.proofs.Common.{◌∙◌, ap, sym}
use Rattle.std.specs.Option.{option_map}
use Rattle.std.proofs.lemmas.Result.{IfOk-weaker}
use Rattle.meta_model.specs.Entries.{line_of}
use Rattle.class_inherit.specs.Late.{late_meant}
use Rattle.class_inherit.proofs.entries.assignment_line.Goals as goal

pub returns-in-Some : goal.returns-in-Some
returns-in-Some c =
    IfOk-weaker c.later_line.result _ _
    (λ made h. h ∙ ap (line_of c.args.op c.args.name.now c.args.text) (ap (option_map late_meant) (sym c.in-Some.is) ∙ c.in_ok-late.ensures))
    c.later_line.ensures
