use Rattle.std.proofs.Common.{ap, sym, ◌∙◌}
use Rattle.override_eval.specs.Winner.{is_counted}
use Rattle.override_eval.proofs.Best.{keep_any}
use Rattle.override_eval.proofs.forms.best_with.Goals as goal

pub best_counted-requires-clause-counted : goal.best_counted-requires-clause-counted
best_counted-requires-clause-counted c = sym (c.is_counted.ensures ∙ ap (is_counted c.args.active.now) c.form_at.ensures) ∙ c.if-is_counted.true

pub returns-else-is_counted : goal.returns-else-is_counted
returns-else-is_counted c = keep_any c.args.active.now c.args.forms.now c.args.place c.args.best c.requires.best (sym (c.is_counted.ensures ∙ ap (is_counted c.args.active.now) c.form_at.ensures) ∙ c.if-is_counted.false)
