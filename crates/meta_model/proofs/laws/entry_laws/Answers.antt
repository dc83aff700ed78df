use Rattle.meta_model.proofs.Adding.{lines_have_no_now}
use Rattle.meta_model.proofs.laws.entry_laws.Goals as goal

pub returns : goal.returns
returns c = lines_have_no_now
