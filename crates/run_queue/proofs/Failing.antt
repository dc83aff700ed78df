-- A failure of a run is one of the clean build.
use Rattle.std.proofs.Common.{◌≡◌, ◌∙◌, sym, ap, subst, refl, ℕ, ◌<◌, arith, Bool, true, false, List, Some, None, Ok, Err, Result, inl, inr, []}
use Rattle.std.specs.List.{AllByRecursion, filter_map, slice_get}
use Rattle.std.specs.Prelude.{Option, if◌then◌else◌, ◌⊎◌}
use Rattle.std.proofs.lemmas.List.Elements.{recursion_from_All}
use Rattle.meta_model.specs.declared.event.Why.{Why}
use Rattle.meta_model.specs.declared.event.Why.TheVariants as why
use Rattle.meta_model.specs.declared.plan.PlanTask.{PlanTask}
use Rattle.meta_model.specs.CleanBuild.{Built, Entries, Gives, Lack, by_itself, built_over, clean_build, clean_task, is_beyond_layout, outputs_of, task_output}
use Rattle.meta_model.specs.CleanBuild as clean_of
use Rattle.meta_model.specs.Layout.{Needed, layout}
use Rattle.tale_model.specs.History.{gives, fails, layout_too_large}
use Rattle.task_worker.proofs.Building.{at_place}
use Rattle.run_queue.specs.Courses.{IsReal}
use Rattle.run_model.specs.Courses.{clean_says, said, said_of, said_over}
use Rattle.run_queue.specs.Laws.{FailedIsReal}

said_fails : (r : Result Entries Why) (cause : Why) → said r ≡ fails cause → by_itself r ≡ Err (clean_of.fails cause)
said_fails (Ok tree) cause e = absurd (cc)
said_fails (Err x) cause e = let same : x ≡ cause = cc in ap (λ (c : Why). Err (clean_of.fails c)) same

said_not_large : (r : Result Entries Why) → said r ≡ layout_too_large → ⊥
said_not_large (Ok tree) e = cc
said_not_large (Err x) e = cc

over_fails : (run : Gives) (task : PlanTask) (needed : Result (List Needed) Lack) (cause : Why) → said_over run task needed ≡ fails cause → built_over run task needed ≡ Err (clean_of.fails cause)
over_fails run task (Err lack) cause e = absurd (cc)
over_fails run task (Ok needed) cause e = by (is_beyond_layout (layout task.id.pn task.files needed)) refl
  where
    laid : Entries
    laid = layout task.id.pn task.files needed

    by : (b : Bool) → is_beyond_layout (layout task.id.pn task.files needed) ≡ b → built_over run task (Ok needed) ≡ Err (clean_of.fails cause)
    by true f = absurd (let n : layout_too_large ≡ fails cause = sym (ap (λ (b : Bool). if b then layout_too_large else said (task_output run task.script task.sstate task.places (layout task.id.pn task.files needed))) f) ∙ e in cc)
    by false f = said_fails (task_output run task.script task.sstate task.places (layout task.id.pn task.files needed)) cause (sym (ap (λ (b : Bool). if b then layout_too_large else said (task_output run task.script task.sstate task.places (layout task.id.pn task.files needed))) f) ∙ e)

over_large : (run : Gives) (task : PlanTask) (needed : Result (List Needed) Lack) → said_over run task needed ≡ layout_too_large → built_over run task needed ≡ Err (clean_of.fails why.TooLarge)
over_large run task (Err lack) e = absurd (cc)
over_large run task (Ok needed) e = by (is_beyond_layout (layout task.id.pn task.files needed)) refl
  where
    by : (b : Bool) → is_beyond_layout (layout task.id.pn task.files needed) ≡ b → built_over run task (Ok needed) ≡ Err (clean_of.fails why.TooLarge)
    by true f = simp f
    by false f = absurd (said_not_large (task_output run task.script task.sstate task.places (layout task.id.pn task.files needed)) (sym (ap (λ (b : Bool). if b then layout_too_large else said (task_output run task.script task.sstate task.places (layout task.id.pn task.files needed))) f) ∙ e))

-- what the clean build has of a task of a plan whose tasks need earlier ones
pub has_task : (run : Gives) (tasks : List PlanTask) (t : ℕ) (task : PlanTask) (built : Built) → slice_get tasks t ≡ Some task → AllByRecursion (λ d. d < t) task.deps → slice_get (clean_build run tasks) t ≡ Some built → built.outcome ≡ built_over run task (outputs_of (filter_map (slice_get (clean_build run tasks)) task.deps))
has_task run tasks t task built at below is =
    let there = at_place run [] tasks t t task at (omega arith) below in
    let same : Some built ≡ Some (record { task = task; outcome = clean_task run (clean_build run tasks) task }) = sym is ∙ there in
    let one : built ≡ record { task = task; outcome = clean_task run (clean_build run tasks) task } = cc in
    ap (λ (b : Built). b.outcome) one

real_by : (run : Gives) (tasks : List PlanTask) (t : ℕ) (task : PlanTask) (built : Built) (cause : Why) → slice_get tasks t ≡ Some task → AllByRecursion (λ d. d < t) task.deps → slice_get (clean_build run tasks) t ≡ Some built → (clean_says run tasks t ≡ fails cause) ⊎ ((clean_says run tasks t ≡ layout_too_large) × (cause ≡ why.TooLarge)) → built.outcome ≡ Err (clean_of.fails cause)
real_by run tasks t task built cause at below is (inl e) =
    has_task run tasks t task built at below is
    ∙ over_fails run task (outputs_of (filter_map (slice_get (clean_build run tasks)) task.deps)) cause (sym (ap (said_of run tasks) at) ∙ e)
real_by run tasks t task built cause at below is (inr e) =
    has_task run tasks t task built at below is
    ∙ over_large run task (outputs_of (filter_map (slice_get (clean_build run tasks)) task.deps)) (sym (ap (said_of run tasks) at) ∙ e.0)
    ∙ ap (λ (c : Why). Err (clean_of.fails c)) (sym e.1)

pub failed_is_real : FailedIsReal
failed_is_real o s run k entry t cause here is built is_built = by (slice_get s.plan.tasks t) refl
  where
    real : (clean_says o.gives s.plan.tasks t ≡ fails cause) ⊎ ((clean_says o.gives s.plan.tasks t ≡ layout_too_large) × (cause ≡ why.TooLarge))
    real = subst (IsReal o.gives s.plan.tasks) is (run.real k entry here)

    by : (x : Option PlanTask) → slice_get s.plan.tasks t ≡ x → built.outcome ≡ Err (clean_of.fails cause)
    by (Some task) at = real_by o.gives s.plan.tasks t task built cause at (recursion_from_All (λ d. d < t) task.deps (run.may.sound.tasks t task at).below) is_built real
    by None at = absurd (none real)
      where
        none : (clean_says o.gives s.plan.tasks t ≡ fails cause) ⊎ ((clean_says o.gives s.plan.tasks t ≡ layout_too_large) × (cause ≡ why.TooLarge)) → ⊥
        none (inl e) = let n : gives ≡ fails cause = sym (ap (said_of o.gives s.plan.tasks) at) ∙ e in cc
        none (inr e) = let n : gives ≡ layout_too_large = sym (ap (said_of o.gives s.plan.tasks) at) ∙ e.0 in cc
