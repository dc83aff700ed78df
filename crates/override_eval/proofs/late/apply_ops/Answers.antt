use Rattle.std.proofs.Common.{ap, ◌∙◌, ◌++◌, reverse}
use Rattle.std.specs.List.{concat}
use Rattle.meta_model.specs.declared.entry.Late.TheVariants.{Append, Prepend}
use Rattle.meta_model.specs.Overrides.{texts_of}
use Rattle.override_eval.proofs.Lates.{late_absent, late_present}
use Rattle.override_eval.proofs.late.apply_ops.Goals as goal

pub returns-then-is_absent : goal.returns-then-is_absent
returns-then-is_absent c = late_absent c.args.active.now c.args.base c.args.ops.now c.is_absent.result c.is_absent.ensures c.if-is_absent.true

pub returns : goal.returns
returns c =
    let lines = c.args.ops.now in
    let active = c.args.active.now in
    late_present active c.args.base lines c.is_absent.result c.push_appends.new.text c.in_ok-removes.removes c.new.result c.is_absent.ensures c.if-is_absent.false
    (c.in_ok-push_appends.ensures ∙ ap (λ s. s ++ concat (texts_of Append active lines)) (
    c.in_ok-push_str.ensures.ok
    ∙ ap (λ s. s ++ c.text_or_empty.result.now) (c.in_ok-push_prepends.ensures ∙ ap (λ s. s ++ concat (reverse (texts_of Prepend active lines))) c.new-text.ensures)
    ∙ ap (λ s. concat (reverse (texts_of Prepend active lines)) ++ s) c.text_or_empty.ensures
    ))
    c.in_ok-removes.ensures c.new.ensures
