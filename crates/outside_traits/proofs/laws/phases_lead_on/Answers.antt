use Rattle.outside_traits.proofs.Phasing as lemmas
use Rattle.outside_traits.proofs.laws.phases_lead_on.Goals as goal

pub returns-clause-first : goal.returns-clause-first
returns-clause-first c = lemmas.phases_begin

pub returns-clause-stay : goal.returns-clause-stay
returns-clause-stay c = lemmas.phases_stay

pub returns-clause-settle : goal.returns-clause-settle
returns-clause-settle c = lemmas.phases_settle

pub returns-clause-on : goal.returns-clause-on
returns-clause-on c = lemmas.phases_go_on

pub returns-clause-cut : goal.returns-clause-cut
returns-clause-cut c = lemmas.phases_break

pub returns-clause-last : goal.returns-clause-last
returns-clause-last c = lemmas.phases_end
