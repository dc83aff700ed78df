-- What the clean build has of one task.
use Rattle.std.proofs.Common.{◌≡◌, ◌∙◌, sym, ap, subst, refl, ℕ, ◌+◌, ◌<◌, zero, suc, arith, List, [], ◌∷◌, ◌++◌, length, map, Result, Ok, Some, length-append}
use Rattle.std.specs.List.{slice_get, filter_map, AllByRecursion}
use Rattle.std.specs.Option.{option_map}
use Rattle.meta_model.specs.declared.plan.Plan.{Plan}
use Rattle.meta_model.specs.declared.plan.PlanTask.{PlanTask}
use Rattle.plan_model.specs.Sound.{IsSound}
use Rattle.task_worker.specs.Runnable.{IsRunnable}
use Rattle.meta_model.proofs.Building.{all_tasks}
use Rattle.meta_model.specs.CleanBuild.{Built, Entries, Gives, Lack, built_over, clean_build, clean_from, clean_task, outputs_of, with_output}
use Rattle.meta_model.specs.Layout.{Needed}
use Rattle.run_model.specs.Layouts.{needed_among}
use Rattle.run_model.specs.CleanOutputs.{AreClean}
use Rattle.task_worker.specs.OneTask.{NoJob, OneJob, OneTask}

get_front : (xs : List Built) (last : Built) (k : ℕ) (x : Built) → slice_get xs k ≡ Some x → slice_get (xs ++ last ∷ []) k ≡ Some x
get_front [] last k x e = absurd (cc)
get_front (y ∷ ys) last zero x e = e
get_front (y ∷ ys) last (suc k) x e = get_front ys last k x e

get_last : (xs : List Built) (last : Built) → slice_get (xs ++ last ∷ []) (length xs) ≡ Some last
get_last [] last = refl
get_last (x ∷ xs) last = get_last xs last

get_there : {A : Type 0} (xs : List A) (k : ℕ) → k < length xs → (x : A) × (slice_get xs k ≡ Some x)
get_there [] k lt = absurd (omega arith)
get_there (x ∷ xs) zero lt = (x, refl)
get_there (x ∷ xs) (suc k) lt = get_there xs k (omega arith)

-- what was built first stays in its place
from_keeps : (gives : Gives) (before : List Built) (tasks : List PlanTask) (n : ℕ) (b : Built) → slice_get before n ≡ Some b → slice_get (clean_from gives before tasks) n ≡ Some b
from_keeps gives before [] n b at = at
from_keeps gives before (t ∷ tasks) n b at = from_keeps gives (before ++ record { task = t; outcome = clean_task gives before t } ∷ []) tasks n b (get_front before (record { task = t; outcome = clean_task gives before t }) n b at)

-- tasks that are built already are found alike later
found_alike : (gives : Gives) (before : List Built) (tasks : List PlanTask) (deps : List ℕ) → AllByRecursion (λ d. d < length before) deps → filter_map (slice_get before) deps ≡ filter_map (slice_get (clean_from gives before tasks)) deps
found_alike gives before tasks [] all = refl
found_alike gives before tasks (d ∷ deps) all =
    let b = get_there before d all.0 in
    let first : slice_get before d ≡ Some b.0 = b.1 in
    let later : slice_get (clean_from gives before tasks) d ≡ Some b.0 = from_keeps gives before tasks d b.0 b.1 in
    simp (first, later) (ap (λ l. b.0 ∷ l) (found_alike gives before tasks deps all.1))

-- a task of the build, over all that was built
pub at_place : (gives : Gives) (before : List Built) (tasks : List PlanTask) (k n : ℕ) (task : PlanTask) → slice_get tasks k ≡ Some task → n ≡ length before + k → AllByRecursion (λ d. d < n) task.deps → slice_get (clean_from gives before tasks) n ≡ Some (record { task = task; outcome = clean_task gives (clean_from gives before tasks) task })
at_place gives before [] k n task at place below = absurd (cc)
at_place gives before (t ∷ tasks) zero n task at place below =
    let same : t ≡ task = cc in
    let b : Built = record { task = t; outcome = clean_task gives before t } in
    let here : slice_get (before ++ b ∷ []) n ≡ Some b = subst (λ (k : ℕ). slice_get (before ++ b ∷ []) k ≡ Some b) (sym (place ∙ omega arith)) (get_last before b) in
    let short : AllByRecursion (λ d. d < length before) task.deps = subst (λ (k : ℕ). AllByRecursion (λ d. d < k) task.deps) (place ∙ omega arith) below in
    let whole = clean_from gives before (t ∷ tasks) in
    from_keeps gives (before ++ b ∷ []) tasks n b here
    ∙ ap (λ (x : PlanTask). Some (record { task = x; outcome = clean_task gives before x })) same
    ∙ ap (λ (l : List Built). Some (record { task = task; outcome = built_over gives task (outputs_of l) })) (found_alike gives before (t ∷ tasks) task.deps short)
at_place gives before (t ∷ tasks) (suc k) n task at place below =
    let b : Built = record { task = t; outcome = clean_task gives before t } in
    at_place gives (before ++ b ∷ []) tasks k n task at (place ∙ omega (arith, length-append before (b ∷ []))) below

get_map : {A B : Type 0} (f : A → B) (xs : List A) (k : ℕ) (x : A) → slice_get xs k ≡ Some x → slice_get (map f xs) k ≡ Some (f x)
get_map f [] k x e = absurd (cc)
get_map f (y ∷ ys) zero x e = ap (option_map f) e
get_map f (y ∷ ys) (suc k) x e = get_map f ys k x e

-- the outputs of the needed tasks
pub outputs_are : (gives : Gives) (tasks : List PlanTask) (outputs : List (ℕ × Entries)) → AreClean gives tasks outputs → outputs_of (filter_map (slice_get (clean_build gives tasks)) (map (λ o. o.0) outputs)) ≡ Ok (needed_among tasks outputs)
outputs_are gives tasks [] all = refl
outputs_are gives tasks (o ∷ outputs) all =
    let b : Built = all.0.0 in
    let at : slice_get (clean_build gives tasks) o.0 ≡ Some b = all.0.1 in
    let is : b.outcome ≡ Ok o.1 = all.0.2 in
    let t : slice_get tasks o.0 ≡ Some b.task = ap (λ (l : List PlanTask). slice_get l o.0) (sym (all_tasks gives tasks)) ∙ get_map (λ (x : Built). x.task) (clean_build gives tasks) o.0 b at in
    let more = outputs_are gives tasks outputs all.1 in
    simp (at, t) (ap (λ (r : Result (List Needed) Lack). with_output b.task b.outcome r) more ∙ ap (λ (r : Result Entries Lack). with_output b.task r (Ok (needed_among tasks outputs))) is)

pub one_task : OneTask
one_task gives tasks n task outputs at below numbers clean =
    let whole = clean_build gives tasks in (
      record { task = task; outcome = clean_task gives whole task },
      at_place gives [] tasks n n task at (omega arith) below,
      ap (λ (deps : List ℕ). built_over gives task (outputs_of (filter_map (slice_get whole) deps))) (sym numbers)
          ∙ ap (built_over gives task) (outputs_are gives tasks outputs clean),
    )

pub one_job : OneJob
one_job gives n task laid fits = simp fits

pub no_job : NoJob
no_job gives task laid beyond = simp beyond

-- what a sound plan has is more than what a run asks
pub sound_is_runnable : (plan : Plan) → IsSound plan → IsRunnable plan
sound_is_runnable plan sound = record {
  few = sound.few;
  tasks = λ n task at. let t = sound.tasks n task at in record { pn = t.pn; name = t.name; below = t.below; parts = t.parts };
}
