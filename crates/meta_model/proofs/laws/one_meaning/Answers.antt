use Rattle.meta_model.proofs.Meaning.{has_one_meaning}
use Rattle.meta_model.proofs.laws.one_meaning.Goals as goal

pub returns : goal.returns
returns c = has_one_meaning
