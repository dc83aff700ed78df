use Rattle.std.proofs.Common.{◌≡◌, ◌∙◌, ap, sym, subst, true, false, IfOk}
use Rattle.std.specs.List.{list_all}
use Rattle.meta_model.specs.Text.{is_in}
use Rattle.meta_model.proofs.FormReading.{form_full}
use Rattle.meta_model.proofs.form.Form.text.Goals as goal

pub returns-then-are_among : goal.returns-then-are_among
returns-then-are_among c =
    subst (λ t. IfOk c.copy.result (λ made. made ≡ t))
    (sym (form_full c.args.self.now c.in-Contains.full c.in-Contains.short c.args.there.now true c.in-Contains.is (sym c.if-are_among.true ∙ c.are_among.ensures ∙ ap (list_all (λ w. is_in w c.args.there.now)) c.as_slice.ensures))) c.copy.ensures

pub returns-else-are_among : goal.returns-else-are_among
returns-else-are_among c =
    subst (λ t. IfOk c.copy-else-are_among.result (λ made. made ≡ t))
    (sym (form_full c.args.self.now c.in-Contains.full c.in-Contains.short c.args.there.now false c.in-Contains.is (sym c.if-are_among.false ∙ c.are_among.ensures ∙ ap (list_all (λ w. is_in w c.args.there.now)) c.as_slice.ensures))) c.copy-else-are_among.ensures
