use Rattle.outside_traits.proofs.Durable as lemmas
use Rattle.outside_traits.proofs.laws.renames_are_whole.Goals as goal

pub returns-clause-settled : goal.returns-clause-settled
returns-clause-settled c = lemmas.settled_by_ticket

pub returns-clause-stays : goal.returns-clause-stays
returns-clause-stays c = lemmas.settled_stays

pub returns-clause-whole : goal.returns-clause-whole
returns-clause-whole c = lemmas.rename_is_whole

pub returns-clause-durable : goal.returns-clause-durable
returns-clause-durable c = lemmas.renamed_is_durable
