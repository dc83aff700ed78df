-- What a job gives, and what a bench ran for it.
use Rattle.std.specs.Prelude.{◌≡◌, ◌≢◌, ◌⊎◌, ℕ, Bool, true, false, List, [], ◌∷◌, ◌++◌, Result, Ok, Err}
use Rattle.tree_model.specs.Manifest.{manifest_lines}
use Rattle.tree_model.specs.Tree.{IsTree}
use Rattle.outside_traits.specs.Bench.{Workplace}
use Rattle.meta_model.specs.declared.event.Why.{Why}
use Rattle.meta_model.specs.declared.event.Why.TheVariants as why
use Rattle.meta_model.specs.CleanBuild.{Entries, Gives, clean_output, is_beyond, output_of}
use Rattle.task_worker.specs.declared.given.Given.{Given}
use Rattle.task_worker.specs.declared.given.Given.TheVariants as given
use Rattle.task_worker.specs.declared.given.Job.{Job}
use Rattle.task_worker.specs.declared.given.WorkFault.{WorkFault}
use Rattle.task_worker.specs.declared.given.WorkFault.TheVariants as work

-- what the clean build has of a task with the script, the layout and the placing of a job, where the layout is within its limits
abbrev pub job_output : Gives → Job → Result Entries Why
job_output gives job = output_of job.placing.sstate job.placing.places (clean_output gives job.script job.layout)

-- what was given, as the clean build says it
abbrev pub outcome_of : Given → Result Entries Why
outcome_of (given.Tree tree manifest) = Ok tree
outcome_of (given.Fails status) = Err (why.Status status)
outcome_of given.TooLarge = Err why.TooLarge

-- a tree that is given is within the limits of an output and has its manifest beside it, and a status is a failing one
abbrev pub IsGiven : Given → Type 0
IsGiven (given.Tree tree manifest) = IsTree tree × (is_beyond tree ≡ false) × (manifest ≡ manifest_lines tree)
IsGiven (given.Fails status) = status ≢ 0
IsGiven given.TooLarge = Unit {0}

-- one run more, of the job's script over its layout
abbrev pub ran_job : List (List ℕ × Entries) → Job → List (List ℕ × Entries)
ran_job before job = before ++ (job.script, job.layout) ∷ []

-- What a bench ran for an answer of a job: the script over the layout, once; where the job wasn't done, once or not at all.
abbrev pub RanJob : {T E : Type 0} → List (List ℕ × Entries) → List (List ℕ × Entries) → Job → Result T E → Type 0
RanJob before now job (Ok given) = now ≡ ran_job before job
RanJob before now job (Err fault) = (now ≡ before) ⊎ (now ≡ ran_job before job)

-- whether the answer is that the bench failed
abbrev pub work_failed : {T : Type 0} → Result T WorkFault → Bool
work_failed (Ok x) = false
work_failed (Err work.Bench) = true
work_failed (Err work.Memory) = false

-- nothing ran since the bench was cleared, and this tree is laid
pub record IsLaid (tree : Entries) (place : Workplace) : Type 0 where
  pub laid : place.laid ≡ tree
  pub cleared : place.cleared ≡ true
