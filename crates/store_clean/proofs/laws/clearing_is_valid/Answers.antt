use Rattle.store_clean.proofs.Valid.{cleared_is_valid, clearing_is_valid}
use Rattle.store_clean.proofs.laws.clearing_is_valid.Goals as goal

pub returns-clause-moments : goal.returns-clause-moments
returns-clause-moments c = clearing_is_valid

pub returns-clause-cleared : goal.returns-clause-cleared
returns-clause-cleared c = cleared_is_valid
