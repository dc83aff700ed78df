-- What the bench gave of a task's job.
use Rattle.std.proofs.Common.{◌≡◌, ◌∙◌, ap}
use Rattle.meta_model.specs.CleanBuild.{Gives}
use Rattle.task_worker.specs.declared.given.Given.{Given}
use Rattle.task_worker.specs.declared.given.Job.{Job}
use Rattle.task_worker.specs.Jobs.{job_output, outcome_of}
use Rattle.run_queue.specs.Turns.{IsGivenBy}

pub is_given_by : (gives own : Gives) (job : Job) (given : Given) → gives ≡ own → job_output own job ≡ outcome_of given → IsGivenBy gives job given
is_given_by gives own job given same out = ap (λ (x : Gives). job_output x job) same ∙ out
