use Rattle.task_worker.proofs.Building.{sound_is_runnable}
use Rattle.task_worker.proofs.laws.runnable_law.Goals as goal

pub returns : goal.returns
returns c = sound_is_runnable
