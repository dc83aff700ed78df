use Rattle.meta_model.proofs.Room.{expanded_room, values_alike, texts_alike}
use Rattle.meta_model.proofs.laws.expansion_laws.Goals as goal

pub returns-clause-short : goal.returns-clause-short
returns-clause-short c = expanded_room

pub returns-clause-values_alike : goal.returns-clause-values_alike
returns-clause-values_alike c = values_alike

pub returns-clause-texts_alike : goal.returns-clause-texts_alike
returns-clause-texts_alike c = texts_alike
