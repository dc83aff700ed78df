use Rattle.plan_model.proofs.Blinded.{whole_is_blind, forced_is_blind, forced_is_whole, first_may_reuse}
use Rattle.plan_model.proofs.laws.whole_plans_are_blind.Goals as goal

pub returns-clause-plan : goal.returns-clause-plan
returns-clause-plan c = whole_is_blind

pub returns-clause-forced : goal.returns-clause-forced
returns-clause-forced c = forced_is_blind

pub returns-clause-whole : goal.returns-clause-whole
returns-clause-whole c = forced_is_whole

pub returns-clause-first : goal.returns-clause-first
returns-clause-first c = first_may_reuse
