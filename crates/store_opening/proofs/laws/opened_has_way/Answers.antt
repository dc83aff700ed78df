use Rattle.store_opening.proofs.Opened as lemmas
use Rattle.store_opening.proofs.laws.opened_has_way.Goals as goal

pub returns : goal.returns
returns c = lemmas.has_way
