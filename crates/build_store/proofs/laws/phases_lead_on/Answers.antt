use Rattle.build_store.proofs.PhaseSteps.{now_is_ticket, staged_at_first, phases_stay, record_goes_on, stamp_goes_on, phases_end}
use Rattle.build_store.proofs.laws.phases_lead_on.Goals as goal

pub returns-clause-first : goal.returns-clause-first
returns-clause-first c = staged_at_first

pub returns-clause-stay : goal.returns-clause-stay
returns-clause-stay c = phases_stay

pub returns-clause-record : goal.returns-clause-record
returns-clause-record c = record_goes_on

pub returns-clause-stamp : goal.returns-clause-stamp
returns-clause-stamp c = stamp_goes_on

pub returns-clause-last : goal.returns-clause-last
returns-clause-last c = phases_end

pub returns-clause-ticket : goal.returns-clause-ticket
returns-clause-ticket c = now_is_ticket
