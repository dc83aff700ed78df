use Rattle.meta_model.proofs.FormNames.{form_asked}
use Rattle.meta_model.proofs.laws.form_laws.Goals as goal

pub returns : goal.returns
returns c = form_asked
