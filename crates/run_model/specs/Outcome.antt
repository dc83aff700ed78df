-- How a run ends, by its tale.
use Rattle.std.specs.Prelude.{Bool, List, length, ◌≡◌, ◌⊎◌, false, true}
use Rattle.meta_model.specs.declared.event.Avail.{Avail}
use Rattle.meta_model.specs.declared.event.Logged.{Logged}
use Rattle.meta_model.specs.declared.plan.Options.{Options}
use Rattle.meta_model.specs.declared.plan.Plan.{Plan}
use Rattle.meta_model.specs.declared.event.Status.{Status}
use Rattle.meta_model.specs.declared.event.Status.TheVariants as status
use Rattle.tale_model.specs.Choice.{IsFinished}
use Rattle.tale_model.specs.Fates.{fates_told}
use Rattle.tale_model.specs.Need.{IsNeed}
use Rattle.run_model.specs.Report.{has_failure}
use Rattle.run_model.specs.Causes.{fault_broke}
use Rattle.run_model.specs.Ends.{bench_broke, is_of_fault, is_plain, memory_broke}

-- the run is finished, by some lists of what is needed and there that fit each other
pub record IsAtEnd (plan : Plan) (options : Options) (tale : List Logged) : Type 0 where
  pub need : List Bool
  pub avail : List Avail
  pub needed : IsNeed plan avail need
  pub finished : IsFinished options plan.tasks need avail (fates_told (length plan.tasks) tale)

-- Under Ok nothing is left to do, and no task failed; where a task failed it stands in the tale, and with `-k` nothing else is left to do.
-- Neither of the two comes where a task broke off since a bench failed or memory was wanting, though another bench did it after all. Where one
-- broke off by a fault, the status is that of a fault that was kept. Of the causes that the tale shows the first one is told: a fault, a bench that
-- failed, want of memory, a task that failed. A fault that was kept needn't have broken a task off, and so may be told before any of them.
pub record EndsAs (plan : Plan) (options : Options) (tale : List Logged) (s : Status) : Type 0 where
  pub ok : s ≡ status.Ok → IsAtEnd plan options tale × (has_failure tale ≡ false)
  pub failed : s ≡ status.TaskFailed → has_failure tale ≡ true
  pub went_on : s ≡ status.TaskFailed → options.keep_going ≡ true → IsAtEnd plan options tale
  pub unbroken : is_plain s ≡ true → (bench_broke tale ≡ false) × (memory_broke tale ≡ false)
  pub by_fault : fault_broke tale ≡ true → is_of_fault s ≡ true
  pub by_bench : bench_broke tale ≡ true → (is_of_fault s ≡ true) ⊎ (s ≡ status.BenchFault)
  pub by_memory : memory_broke tale ≡ true → bench_broke tale ≡ false → is_of_fault s ≡ true
  pub bench : s ≡ status.BenchFault → bench_broke tale ≡ true
