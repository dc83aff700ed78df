use Rattle.load_model.proofs.Greatest.{greatest_is}
use Rattle.load_model.proofs.laws.greatest_law.Goals as goal

pub returns : goal.returns
returns c = greatest_is
