use Rattle.task_worker.proofs.Building.{no_job, one_job, one_task}
use Rattle.task_worker.proofs.laws.one_task.Goals as goal

pub returns : goal.returns
returns c = record { task = one_task; job = one_job; too_large = no_job }
