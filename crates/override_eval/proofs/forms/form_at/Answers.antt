use Rattle.std.proofs.Common.{◌∙◌, []}
use Rattle.override_eval.proofs.Best.{get_same}
use Rattle.override_eval.proofs.forms.form_at.Goals as goal

pub returns : goal.returns
returns c = c.as_str.ensures ∙ c.index-forms-place.is ∙ get_same c.args.forms.now c.args.place c.index-forms-place.result [] c.requires
