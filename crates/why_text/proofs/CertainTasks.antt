-- What a run needs in any case: the sweep over the plan in which a task that waits needs no more than what it waits for.
use Rattle.std.proofs.Common.{◌≡◌, ◌∙◌, sym, ap, subst, refl, ℕ, ◌<◌, Bool, true, false, not, List, [], ◌∷◌, All, Contains, length, get_or, Option, None, Some, slice_get, map, filter, ◌⊎◌, inl, inr, arith}
use Rattle.std.specs.Prelude.{replicate, if◌then◌else◌}
use Rattle.std.specs.Option.{option_map}
use Rattle.std.proofs.lemmas.Bool.{false≢true}
use Rattle.std.proofs.lemmas.List.{get_or-replicate, length-map, length-replicate}
use Rattle.std.proofs.lemmas.List.Elements.{All-contains, All-filter, Contains-get_or}
use Rattle.std.proofs.lemmas.Option.{none-some, same_Some, slice_get-get_or, slice_get-map, slice_get_within}
use Rattle.meta_model.specs.declared.event.Avail.{Avail}
use Rattle.meta_model.specs.declared.event.Avail.TheVariants.{Missing}
use Rattle.meta_model.specs.declared.plan.Plan.{Plan}
use Rattle.meta_model.specs.declared.plan.PlanTask.{PlanTask}
use Rattle.run_core.specs.Need.{AreOrdered}
use Rattle.tale_model.specs.Need.{IsIn, IsClosed, deps_in, deps_of}
use Rattle.setscene_plan.specs.Sets.{Adds, IsForced, IsBelow}
use Rattle.setscene_plan.proofs.Sweeping.{IsSwept, below_put}
use Rattle.why_model.specs.Seen.{firm, is_seen, narrowed, narrowed_task, waits_of}

-- ---- what tasks need there

waits_all : (P : ℕ → Type 0) (seen : List Bool) (task : PlanTask) → All P task.deps → All P (waits_of seen task)
waits_all P seen task all = by task.nostamp
  where
    by : (b : Bool) → All P (if b then [] else filter (λ d. not (is_seen seen d)) task.deps)
    by true = λ k d lt. absurd (omega (arith, lt))
    by false = All-filter (λ d. not (is_seen seen d)) P task.deps all

pub firm_all : (P : ℕ → Type 0) (seen : List Bool) (task : PlanTask) → All P task.deps → All P (firm task.deps (waits_of seen task))
firm_all P seen task all = by (waits_of seen task) (waits_all P seen task all)
  where
    by : (waits : List ℕ) → All P waits → All P (firm task.deps waits)
    by [] w = all
    by (n ∷ ns) w = w

narrowed_at : (seen : List Bool) (tasks : List PlanTask) (t : ℕ) → deps_of (map (narrowed_task seen) tasks) t ≡ deps_in (option_map (narrowed_task seen) (slice_get tasks t))
narrowed_at seen tasks t = ap (λ o. deps_in o) (slice_get-map (narrowed_task seen) tasks t)

pub narrowed_deps : (seen : List Bool) (tasks : List PlanTask) (t : ℕ) (task : PlanTask) → slice_get tasks t ≡ Some task → deps_of (map (narrowed_task seen) tasks) t ≡ firm task.deps (waits_of seen task)
narrowed_deps seen tasks t task is = narrowed_at seen tasks t ∙ ap (λ o. deps_in (option_map (narrowed_task seen) o)) is

pub narrowed_ordered : (seen : List Bool) (plan : Plan) → AreOrdered plan.tasks → AreOrdered (narrowed seen plan).tasks
narrowed_ordered seen plan ordered t = subst (λ (ds : List ℕ). All (λ d. d < t) ds) (sym (narrowed_at seen plan.tasks t)) (by (slice_get plan.tasks t) (ordered t))
  where
    by : (o : Option PlanTask) → All (λ d. d < t) (deps_in o) → All (λ d. d < t) (deps_in (option_map (narrowed_task seen) o))
    by None all = all
    by (Some task) all = firm_all (λ d. d < t) seen task all

-- ---- the sweep's begin

some_of : {A B : Type 0} (f : A → B) (o : Option A) (y : B) → option_map f o ≡ Some y → (x : A) × (o ≡ Some x) × (f x ≡ y)
some_of f None y is = absurd (none-some y is)
some_of f (Some x) y is = (x, refl, same_Some (f x) y is)

-- a task of the narrowed plan that runs in each run is one of the plan
pub forced_before : (seen : List Bool) (tasks : List PlanTask) (t : ℕ) (task : PlanTask) → slice_get (map (narrowed_task seen) tasks) t ≡ Some task → task.nostamp ≡ true → IsForced tasks t
forced_before seen tasks t task is forced =
    let found = some_of (narrowed_task seen) (slice_get tasks t) task (sym (slice_get-map (narrowed_task seen) tasks t) ∙ is) in
    (found.0, found.1, ap (λ (x : PlanTask). x.nostamp) found.2 ∙ forced)

-- and the other way round
pub forced_behind : (seen : List Bool) (tasks : List PlanTask) (t : ℕ) → IsForced tasks t → (task : PlanTask) × (slice_get (map (narrowed_task seen) tasks) t ≡ Some task) × (task.nostamp ≡ true)
forced_behind seen tasks t forced = (narrowed_task seen forced.0, slice_get-map (narrowed_task seen) tasks t ∙ ap (λ o. option_map (narrowed_task seen) o) forced.1, forced.2)

pub none_in : (n t : ℕ) → IsIn (replicate n false) t → ⊥
none_in n t is =
    let lt : t < n = omega (arith, slice_get_within (replicate n false) t true is, length-replicate n false) in
    false≢true (same_Some false true (ap Some (sym (get_or-replicate n t false false lt)) ∙ sym (slice_get-get_or (replicate n false) t false (omega (arith, lt, length-replicate n false))) ∙ is))

-- The targets and the tasks that run in each run are put into an empty set.
pub begun : (seen : List Bool) (plan : Plan) (avail : List Avail) (mid set : List Bool) → Adds (Contains plan.targets) (replicate (length plan.tasks) false) mid → Adds (IsForced plan.tasks) mid set → IsSwept (narrowed seen plan) avail set (length plan.tasks)
begun seen plan avail mid set one two = record {
  long = two.long ∙ one.long ∙ length-replicate (length plan.tasks) false ∙ sym (length-map plan.tasks (narrowed_task seen));
  targets = λ k d lt. two.kept (get_or plan.targets k d) (one.put (get_or plan.targets k d) (Contains-get_or plan.targets k d lt));
  nostamp = λ t task is forced. two.put t (forced_before seen plan.tasks t task is forced);
  done = λ t le member lacks. absurd (omega (arith, le, slice_get_within set t true member, two.long, one.long, length-replicate (length plan.tasks) false));
  least = λ kept agree other closed t member. least_by other closed t (two.only t member);
}
  where
    least_by : {kept : List Avail} (other : List Bool) → IsClosed (narrowed seen plan) kept other → (t : ℕ) → IsIn mid t ⊎ IsForced plan.tasks t → IsIn other t
    least_by other closed t (inr forced) = let f = forced_behind seen plan.tasks t forced in closed.nostamp t f.0 f.1 f.2
    least_by other closed t (inl member) = elim (one.only t member) [
      | inl none ↦ absurd (none_in (length plan.tasks) t none)
      | inr target ↦ All-contains (IsIn other) plan.targets t closed.targets target
    ]

-- ---- one task's turn

pub firm_put : (seen : List Bool) (plan : Plan) (avail : List Avail) (old new : List Bool) (t : ℕ) (task : PlanTask) → slice_get plan.tasks t ≡ Some task → IsIn old t → slice_get avail t ≡ Some Missing
    → Adds (Contains (firm task.deps (waits_of seen task))) old new → Adds (IsBelow (narrowed seen plan).tasks avail old t) old new
firm_put seen plan avail old new t task is member lacks adds =
    below_put (narrowed seen plan).tasks avail old new t member lacks (subst (λ (ds : List ℕ). Adds (Contains ds) old new) (sym (narrowed_deps seen plan.tasks t task is)) adds)
