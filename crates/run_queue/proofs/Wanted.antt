-- What stands under a task with a clean output has one.
use Rattle.std.proofs.Common.{◌≡◌, ◌∙◌, sym, ap, subst, refl, ℕ, ◌+◌, ◌<◌, ◌≤◌, zero, suc, arith, List, [], ◌∷◌, length, get_or, Some, None, Ok, Err, Result, inl, inr}
use Rattle.std.specs.List.{filter_map, slice_get}
use Rattle.std.specs.Prelude.{Option, Contains}
use Rattle.std.proofs.lemmas.List.Elements.{recursion_from_All, All-contains}
use Rattle.std.proofs.lemmas.List.{length-map}
use Rattle.std.proofs.lemmas.Option.{slice_get-get_or, slice_get_within}
use Rattle.meta_model.proofs.Building.{all_tasks}
use Rattle.meta_model.specs.declared.plan.Plan.{Plan}
use Rattle.meta_model.specs.declared.plan.PlanTask.{PlanTask}
use Rattle.meta_model.specs.CleanBuild.{Built, Entries, Gives, Lack, built_over, clean_build, outputs_of, with_output}
use Rattle.meta_model.specs.Layout.{Needed}
use Rattle.plan_model.specs.Sound.{AreWanted, IsSound}
use Rattle.tale_model.specs.Need.{deps_in, deps_of}
use Rattle.run_queue.specs.Laws.{AllHaveOutputs, HasOutput}
use Rattle.run_queue.proofs.Failing.{has_task}

-- outputs of all come from an output of each
first_ok : (task : PlanTask) (first : Result Entries Lack) (rest : Result (List Needed) Lack) (needed : List Needed) → with_output task first rest ≡ Ok needed → (tree : Entries) × (first ≡ Ok tree)
first_ok task (Ok tree) rest needed e = (tree, refl)
first_ok task (Err lack) rest needed e = absurd (cc)

rest_ok : (task : PlanTask) (first : Result Entries Lack) (rest : Result (List Needed) Lack) (needed : List Needed) → with_output task first rest ≡ Ok needed → (more : List Needed) × (rest ≡ Ok more)
rest_ok task (Ok tree) (Ok more) needed e = (more, refl)
rest_ok task (Ok tree) (Err lack) needed e = absurd (cc)
rest_ok task (Err lack) rest needed e = absurd (cc)

abbrev DepOk : List Built → List ℕ → ℕ → Built → Type 0
DepOk whole deps d built = (needed : List Needed) → outputs_of (filter_map (slice_get whole) deps) ≡ Ok needed → Contains deps d → (tree : Entries) × (built.outcome ≡ Ok tree)

dep_by : (whole : List Built) (x : ℕ) (deps : List ℕ) (d : ℕ) (built : Built) → slice_get whole d ≡ Some built → DepOk whole deps d built → DepOk whole (x ∷ deps) d built
dep_by whole x deps d built is again needed e has = by has.0 has.1 has.2 (slice_get whole x) refl
  where
    by : (k : ℕ) → k < length (x ∷ deps) → get_or (x ∷ deps) k d ≡ d → (o : Option Built) → slice_get whole x ≡ o → (tree : Entries) × (built.outcome ≡ Ok tree)
    by zero lt same o at =
        let here : slice_get whole x ≡ Some built = ap (slice_get whole) same ∙ is in
        let all : with_output built.task built.outcome (outputs_of (filter_map (slice_get whole) deps)) ≡ Ok needed = sym (simp here) ∙ e in
        first_ok built.task built.outcome (outputs_of (filter_map (slice_get whole) deps)) needed all
    by (suc k) lt same None at =
        let all : outputs_of (filter_map (slice_get whole) deps) ≡ Ok needed = sym (simp at) ∙ e in
        again needed all (k, omega (arith, lt), same)
    by (suc k) lt same (Some b) at =
        let all : with_output b.task b.outcome (outputs_of (filter_map (slice_get whole) deps)) ≡ Ok needed = sym (simp at) ∙ e in
        let rest = rest_ok b.task b.outcome (outputs_of (filter_map (slice_get whole) deps)) needed all in
        again rest.0 rest.1 (k, omega (arith, lt), same)

-- each of the needed tasks that was built has an output
pub dep_ok : (whole : List Built) (deps : List ℕ) (d : ℕ) (built : Built) → slice_get whole d ≡ Some built → DepOk whole deps d built
dep_ok whole [] d built is needed e has = absurd (let lt = has.1 in omega (arith, lt))
dep_ok whole (x ∷ deps) d built is needed e has = dep_by whole x deps d built is (dep_ok whole deps d built is) needed e has

-- an output of a task is one over the outputs of all that it needs
over_ok : (gives : Gives) (task : PlanTask) (needed : Result (List Needed) Lack) (tree : Entries) → built_over gives task needed ≡ Ok tree → (all : List Needed) × (needed ≡ Ok all)
over_ok gives task (Ok all) tree e = (all, refl)
over_ok gives task (Err lack) tree e = absurd (cc)

pub built_long : (gives : Gives) (tasks : List PlanTask) → length (clean_build gives tasks) ≡ length tasks
built_long gives tasks = sym (length-map (clean_build gives tasks) (λ b. b.task)) ∙ ap (length {A = PlanTask}) (all_tasks gives tasks)

-- what a task needs that has an output has one
pub under_ok : (gives : Gives) (plan : Plan) → IsSound plan → (u t : ℕ) → HasOutput gives plan u → Contains (deps_of plan.tasks u) t → HasOutput gives plan t
under_ok gives plan sound u t above has built is = by (slice_get plan.tasks u) refl
  where
    whole : List Built
    whole = clean_build gives plan.tasks

    there : (task : PlanTask) (b : Built) → slice_get plan.tasks u ≡ Some task → slice_get (clean_build gives plan.tasks) u ≡ Some b → (tree : Entries) × (built.outcome ≡ Ok tree)
    there task b at is_b =
        let out = above b is_b in
        let over : built_over gives task (outputs_of (filter_map (slice_get (clean_build gives plan.tasks)) task.deps)) ≡ Ok out.0 =
        sym (has_task gives plan.tasks u task b at (recursion_from_All (λ d. d < u) task.deps (sound.tasks u task at).below) is_b) ∙ out.1 in
        let all = over_ok gives task (outputs_of (filter_map (slice_get (clean_build gives plan.tasks)) task.deps)) out.0 over in
        dep_ok (clean_build gives plan.tasks) task.deps t built is all.0 all.1 (subst (λ (l : List ℕ). Contains l t) (ap deps_in at) has)

    by : (x : Option PlanTask) → slice_get plan.tasks u ≡ x → (tree : Entries) × (built.outcome ≡ Ok tree)
    by (Some task) at =
        let lt : u < length (clean_build gives plan.tasks) = let w = slice_get_within plan.tasks u task at in let l = built_long gives plan.tasks in omega (arith, w, l) in
        there task (get_or (clean_build gives plan.tasks) u built) at (slice_get-get_or (clean_build gives plan.tasks) u built lt)
    by None at = absurd (let none : deps_of plan.tasks u ≡ [] = ap deps_in at in let h : Contains {X = ℕ} [] t = subst (λ (l : List ℕ). Contains l t) none has in let lt = h.1 in omega (arith, lt))

-- what is needed by a task stands below it
pub is_below : (plan : Plan) → IsSound plan → (u t : ℕ) → Contains (deps_of plan.tasks u) t → t < u
is_below plan sound u t has = by (slice_get plan.tasks u) refl
  where
    by : (x : Option PlanTask) → slice_get plan.tasks u ≡ x → t < u
    by (Some task) at = All-contains (λ d. d < u) task.deps t (sound.tasks u task at).below (subst (λ (l : List ℕ). Contains l t) (ap deps_in at) has)
    by None at = absurd (let none : deps_of plan.tasks u ≡ [] = ap deps_in at in let h : Contains {X = ℕ} [] t = subst (λ (l : List ℕ). Contains l t) none has in let lt = h.1 in omega (arith, lt))

down : (gives : Gives) (plan : Plan) → IsSound plan → AreWanted plan → ((t : ℕ) → Contains plan.targets t → HasOutput gives plan t) → (left t : ℕ) → length plan.tasks ≤ t + left → HasOutput gives plan t
down gives plan sound wanted targets zero t past built is =
    absurd (let w = slice_get_within (clean_build gives plan.tasks) t built is in let l = built_long gives plan.tasks in omega (arith, w, l, past))
down gives plan sound wanted targets (suc left) t past built is =
    let lt : t < length plan.tasks = let w = slice_get_within (clean_build gives plan.tasks) t built is in let l = built_long gives plan.tasks in omega (arith, w, l) in
    elim (wanted t lt) [
      | inl target ↦ targets t target built is
      | inr one ↦
          let needs : Contains (deps_of plan.tasks one.0) t = subst (λ (l : List ℕ). Contains l t) (sym (ap deps_in one.2)) one.3 in
          let below = is_below plan sound one.0 t needs in
          under_ok gives plan sound one.0 t (down gives plan sound wanted targets left one.0 (omega (arith, below, past))) needs built is
    ]

pub all_have_outputs : AllHaveOutputs
all_have_outputs gives plan sound wanted targets t = down gives plan sound wanted targets (length plan.tasks) t (omega (arith))
