use Rattle.store_clean.proofs.Rooted.{roots_stay}
use Rattle.store_clean.proofs.laws.roots_stay.Goals as goal

pub returns : goal.returns
returns c = roots_stay
