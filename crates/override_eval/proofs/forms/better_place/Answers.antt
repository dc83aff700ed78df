use Rattle.std.proofs.Common.{ap, sym, ◌∙◌, [], get_or}
use Rattle.meta_model.specs.Overrides.{beats}
use Rattle.override_eval.specs.Winner.{parts}
use Rattle.override_eval.proofs.Best.{take_better, keep_best}
use Rattle.override_eval.proofs.forms.better_place.Goals as goal

pub returns-then-beats : goal.returns-then-beats
returns-then-beats c =
    let active = c.args.active.now in
    let forms = c.args.forms.now in
    take_better active forms c.args.place c.args.best c.requires.best c.requires.counted
    (sym (c.beats.ensures ∙ ap (λ s. beats active (parts s) (parts c.form_at-2.result.now)) c.form_at.ensures ∙ ap (λ s. beats active (parts (get_or forms c.args.place [])) (parts s)) c.form_at-2.ensures) ∙ c.if-beats.true)

pub returns-else-beats : goal.returns-else-beats
returns-else-beats c =
    let active = c.args.active.now in
    let forms = c.args.forms.now in
    keep_best active forms c.args.place c.args.best c.requires.best
    (sym (c.beats.ensures ∙ ap (λ s. beats active (parts s) (parts c.form_at-2.result.now)) c.form_at.ensures ∙ ap (λ s. beats active (parts (get_or forms c.args.place [])) (parts s)) c.form_at-2.ensures) ∙ c.if-beats.false)
