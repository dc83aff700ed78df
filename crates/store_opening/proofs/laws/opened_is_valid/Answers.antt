use Rattle.store_opening.proofs.Reopened as lemmas
use Rattle.store_opening.proofs.laws.opened_is_valid.Goals as goal

pub returns-clause-cleared : goal.returns-clause-cleared
returns-clause-cleared c = lemmas.cleared_is_valid

pub returns-clause-valid : goal.returns-clause-valid
returns-clause-valid c = lemmas.opened_is_valid

pub returns-clause-one_way : goal.returns-clause-one_way
returns-clause-one_way c = lemmas.opened_one_way
