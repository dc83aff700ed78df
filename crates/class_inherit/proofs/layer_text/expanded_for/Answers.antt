use Rattle.std.proofs.Common.{◌∙◌, refl, ap, sym}
use Rattle.load_model.specs.Layers.{with_folder}
use Rattle.class_inherit.specs.Reading.{text_for}
use Rattle.class_inherit.proofs.Faulting.{expand_ok, expand_err}
use Rattle.class_inherit.proofs.layer_text.expanded_for.Goals as goal

pub returns-in_ok-text-in-Some-clause-ok : goal.returns-in_ok-text-in-Some-clause-ok
returns-in_ok-text-in-Some-clause-ok c =
    expand_ok c.expand.result c.args.reading.now.lines c.args.reading.now.lines c.as_str-in-Some-2.result.now (text_for c.args.layer.now c.args.text.now) refl
    (c.as_str-in-Some-2.ensures ∙ c.in_ok-text-in-Some.ensures ∙ ap (λ l. with_folder l c.as_str-in-Some.result.now) c.as_str.ensures ∙ ap (with_folder c.in-Some.layer) c.as_str-in-Some.ensures ∙ ap (λ l. text_for l c.args.text.now) (sym c.in-Some.is))
    c.expand.ensures.ok

pub returns-in_ok-text-in-Some-clause-err : goal.returns-in_ok-text-in-Some-clause-err
returns-in_ok-text-in-Some-clause-err c =
    expand_err c.expand.result c.args.reading.now.lines c.args.reading.now.lines c.as_str-in-Some-2.result.now (text_for c.args.layer.now c.args.text.now) refl
    (c.as_str-in-Some-2.ensures ∙ c.in_ok-text-in-Some.ensures ∙ ap (λ l. with_folder l c.as_str-in-Some.result.now) c.as_str.ensures ∙ ap (with_folder c.in-Some.layer) c.as_str-in-Some.ensures ∙ ap (λ l. text_for l c.args.text.now) (sym c.in-Some.is))
    c.expand.ensures.err

pub returns-in-None-clause-ok : goal.returns-in-None-clause-ok
returns-in-None-clause-ok c =
    expand_ok c.expand-in-None.result c.args.reading.now.lines c.args.reading.now.lines c.as_str-in-None.result.now (text_for c.args.layer.now c.args.text.now) refl
    (c.as_str-in-None.ensures ∙ ap (λ l. text_for l c.args.text.now) (sym c.in-None.is)) c.expand-in-None.ensures.ok

pub returns-in-None-clause-err : goal.returns-in-None-clause-err
returns-in-None-clause-err c =
    expand_err c.expand-in-None.result c.args.reading.now.lines c.args.reading.now.lines c.as_str-in-None.result.now (text_for c.args.layer.now c.args.text.now) refl
    (c.as_str-in-None.ensures ∙ ap (λ l. text_for l c.args.text.now) (sym c.in-None.is)) c.expand-in-None.ensures.err
