use Rattle.meta_model.proofs.Steps.{value_slot-push, flag_slot-push, lates-push, names_in-push, is_task-push, comes_after-push}
use Rattle.meta_model.proofs.laws.step_laws.Goals as goal

pub returns-clause-value : goal.returns-clause-value
returns-clause-value c = value_slot-push

pub returns-clause-flag : goal.returns-clause-flag
returns-clause-flag c = flag_slot-push

pub returns-clause-late : goal.returns-clause-late
returns-clause-late c = lates-push

pub returns-clause-names : goal.returns-clause-names
returns-clause-names c = names_in-push

pub returns-clause-task : goal.returns-clause-task
returns-clause-task c = is_task-push

pub returns-clause-order : goal.returns-clause-order
returns-clause-order c = comes_after-push
