-- What the clean build says of a job.
use Rattle.std.proofs.Common.{◌<◌, ◌≡◌, ◌∙◌, sym, ap, subst, ℕ, Bool, false, List, length, map, Some, Ok, inl}
use Rattle.std.specs.List.{AllByRecursion, filter_map, slice_get}
use Rattle.std.specs.Prelude.{if◌then◌else◌}
use Rattle.tree_model.specs.declared.manifest.ManifestLine.{ManifestLine}
use Rattle.meta_model.specs.declared.plan.Plan.{Plan}
use Rattle.meta_model.specs.declared.plan.PlanTask.{PlanTask}
use Rattle.meta_model.specs.CleanBuild.{Built, Entries, Gives, by_itself, clean_build, is_beyond_layout, outputs_of, task_output}
use Rattle.tale_model.specs.declared.fate.Fate.TheVariants.{Running}
use Rattle.tale_model.specs.Fates.{fate_at, fates_told}
use Rattle.tale_model.specs.History.{MayCome, layout_too_large}
use Rattle.task_worker.specs.declared.given.Given.{Given}
use Rattle.task_worker.specs.declared.given.Given.TheVariants as given
use Rattle.task_worker.specs.declared.given.Job.{Job}
use Rattle.task_worker.specs.Jobs.{job_output, outcome_of}
use Rattle.run_model.specs.Layouts.{layout_over, needed_among}
use Rattle.run_model.specs.CleanOutputs.{AreClean}
use Rattle.task_worker.specs.OneTask.{job_of}
use Rattle.task_worker.proofs.Building.{one_job, one_task, outputs_are}
use Rattle.run_model.specs.Opening.{Opening}
use Rattle.run_model.specs.Courses.{clean_says, said, said_of, said_over}
use Rattle.run_queue.specs.Laws.{EndMayCome, JobIsSaid}
use Rattle.run_queue.specs.Seen.{Seen}
use Rattle.run_queue.specs.Turns.{IsCleanJob, IsGivenBy, closed_as}

over_needed : (run : Gives) (tasks : List PlanTask) (n : ℕ) (task : PlanTask) (outputs : List (ℕ × Entries)) → slice_get tasks n ≡ Some task → map (λ x. x.0) outputs ≡ task.deps → AreClean run tasks outputs → clean_says run tasks n ≡ said_over run task (Ok (needed_among tasks outputs))
over_needed run tasks n task outputs at numbers clean =
    ap (said_of run tasks) at
    ∙ ap (λ (deps : List ℕ). said_over run task (outputs_of (filter_map (slice_get (clean_build run tasks)) deps))) (sym numbers)
    ∙ ap (said_over run task) (outputs_are run tasks outputs clean)

pub job_is_said : JobIsSaid
job_is_said run tasks n task outputs at numbers clean =
    let laid : Entries = layout_over tasks task outputs in (
      λ fits. over_needed run tasks n task outputs at numbers clean
          ∙ ap (λ (b : Bool). if b then layout_too_large else said (task_output run task.script task.sstate task.places laid)) fits
          ∙ ap said (one_job run n task laid fits),
      λ beyond. over_needed run tasks n task outputs at numbers clean
          ∙ ap (λ (b : Bool). if b then layout_too_large else said (task_output run task.script task.sstate task.places laid)) beyond,
    )

pub says : (o : Opening) (s : Seen) (job : Job) (g : Given) → IsCleanJob o s job → IsGivenBy o.gives job g → clean_says o.gives s.plan.tasks job.task ≡ said (outcome_of g)
says o s job g j is_given =
    let laid : Entries = layout_over s.plan.tasks j.task j.outputs in
    let fits : is_beyond_layout laid ≡ false = ap is_beyond_layout (sym j.layout) ∙ j.within in
    let same : ◌≡◌ {A = Job} (job_of job.task j.task laid) job = λ i. record { task = job.task; script = sym j.script i; layout = sym j.layout i; placing = sym j.placing i } in
    (job_is_said o.gives s.plan.tasks job.task j.task j.outputs j.is_task j.numbers j.clean).0 fits
    ∙ ap (λ (x : Job). said (job_output o.gives x)) same
    ∙ ap said is_given

pub end_may_come : EndMayCome
end_may_come o s job g seat moment j is_given runs course same is = by g (is.clean job.task ∙ ap (λ (p : Plan). clean_says o.gives p.tasks job.task) same ∙ says o s job g j is_given)
  where
    here : fate_at (fates_told (length course.plan.tasks) s.tale) job.task ≡ Running seat
    here = subst (λ (p : Plan). fate_at (fates_told (length p.tasks) s.tale) job.task ≡ Running seat) (sym same) runs

    by : (x : Given) → course.clean job.task ≡ said (outcome_of x) → MayCome course s.tale (record { event = closed_as job.task x; seat = seat; moment = moment })
    by (given.Tree tree manifest) e = (here, e)
    by (given.Fails status) e = inl (here, e)
    by given.TooLarge e = inl (here, e)

-- the job's task needs earlier ones alone
abbrev pub AllBelow : Seen → Job → Type 0
AllBelow s job = (task : PlanTask) → slice_get s.plan.tasks job.task ≡ Some task → AllByRecursion (λ d. d < job.task) task.deps

-- the tree that a clean job gave is the task's clean output
pub given_is_clean : (o : Opening) (s : Seen) (job : Job) (tree : Entries) (manifest : List ManifestLine) → IsCleanJob o s job → IsGivenBy o.gives job (given.Tree tree manifest) → AllBelow s job → (built : Built) × (slice_get (clean_build o.gives s.plan.tasks) job.task ≡ Some built) × (built.outcome ≡ Ok tree)
given_is_clean o s job tree manifest j is_given below =
    let laid : Entries = layout_over s.plan.tasks j.task j.outputs in
    let fits : is_beyond_layout laid ≡ false = ap is_beyond_layout (sym j.layout) ∙ j.within in
    let same : ◌≡◌ {A = Job} (job_of job.task j.task laid) job = λ i. record { task = job.task; script = sym j.script i; layout = sym j.layout i; placing = sym j.placing i } in
    let has = one_task o.gives s.plan.tasks job.task j.task j.outputs j.is_task (below j.task j.is_task) j.numbers j.clean in
    (has.0, has.1, has.2 ∙ ap by_itself (one_job o.gives job.task j.task laid fits ∙ ap (λ (x : Job). job_output o.gives x) same ∙ is_given))
