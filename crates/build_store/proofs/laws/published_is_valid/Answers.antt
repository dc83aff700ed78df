use Rattle.build_store.proofs.Validity as lemmas
use Rattle.build_store.proofs.laws.published_is_valid.Goals as goal

pub returns : goal.returns
returns c = lemmas.published_is_valid
