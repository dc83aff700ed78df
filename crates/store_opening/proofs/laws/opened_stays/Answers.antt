use Rattle.store_opening.proofs.Reopened as lemmas
use Rattle.store_opening.proofs.StillThere as there
use Rattle.store_opening.proofs.laws.opened_stays.Goals as goal

pub returns-clause-available : goal.returns-clause-available
returns-clause-available c = there.opened_stays

pub returns-clause-no_more : goal.returns-clause-no_more
returns-clause-no_more c = lemmas.opened_holds_no_more
