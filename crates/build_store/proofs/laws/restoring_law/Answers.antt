use Rattle.build_store.proofs.RestoringOpens as lemmas
use Rattle.build_store.proofs.laws.restoring_law.Goals as goal

pub returns : goal.returns
returns c = lemmas.restoring_is_publishing
