use Rattle.store_opening.proofs.Reused as lemmas
use Rattle.store_opening.proofs.laws.reuse_again.Goals as goal

pub returns : goal.returns
returns c = lemmas.reuse_again
