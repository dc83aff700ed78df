use Rattle.outside_traits.proofs.Durable as lemmas
use Rattle.outside_traits.proofs.laws.durable_stays.Goals as goal

pub returns-clause-untouched : goal.returns-clause-untouched
returns-clause-untouched c = lemmas.not_touched_stays

pub returns-clause-from : goal.returns-clause-from
returns-clause-from c = lemmas.kept_from

pub returns-clause-stays : goal.returns-clause-stays
returns-clause-stays c = lemmas.durable_stays
