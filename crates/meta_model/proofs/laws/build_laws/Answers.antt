use Rattle.meta_model.proofs.Building.{all_tasks, alone, one_more, within}
use Rattle.meta_model.proofs.laws.build_laws.Goals as goal

pub returns-clause-tasks : goal.returns-clause-tasks
returns-clause-tasks c = all_tasks

pub returns-clause-step : goal.returns-clause-step
returns-clause-step c = one_more

pub returns-clause-alone : goal.returns-clause-alone
returns-clause-alone c = alone

pub returns-clause-within : goal.returns-clause-within
returns-clause-within c = within
