use Rattle.run_queue.proofs.Jobs.{end_may_come, job_is_said}
use Rattle.run_queue.proofs.laws.job_laws.Goals as goal

pub returns : goal.returns
returns c = record { said = job_is_said; ends = end_may_come }
