use Rattle.plan_model.proofs.Wanted.{plan_is_wanted, forced_is_wanted}
use Rattle.plan_model.proofs.laws.plan_is_wanted.Goals as goal

pub returns-clause-plan : goal.returns-clause-plan
returns-clause-plan c = plan_is_wanted

pub returns-clause-forced : goal.returns-clause-forced
returns-clause-forced c = forced_is_wanted
