-- The search for the plan of a request, and what follows of it.
use Rattle.std.proofs.Common.{◌≡◌, inl, inr, subst, ℕ, List, [], Result, Ok, Err}
use Rattle.std.specs.Prelude.{Option, IfErr, IfOk}
use Rattle.outside_traits.specs.Store.{IsListing}
use Rattle.meta_model.specs.declared.event.Status.{Status}
use Rattle.meta_model.specs.declared.plan.Plan.{Plan}
use Rattle.answer_model.specs.Plans.{HasPlan}
use Rattle.target_plan.specs.Plans.{IsNoPlan}
use Rattle.answer_model.specs.declared.asked.RunRequest.{RunRequest}
use Rattle.answer_model.specs.Run.{Files, IsRunPlan, IsUnrun}

-- the search found no plan
unrun_from : (files : Files) (paths : List (List ℕ)) (request : RunRequest) (s : Status) → IsNoPlan files paths request.targets request.task request.force s → IsUnrun files paths request s
unrun_from files paths request s (inl (inl memory)) = inl memory
unrun_from files paths request s (inl (inr read)) = inr (inl read)
unrun_from files paths request s (inr refused) = inr (inr refused)

-- the same of an answer that is handed on
pub unrun_by : {R : Type 0} (told : Type 0) (files : Files) (request : RunRequest) (targets : List (List ℕ)) (task : Option (List ℕ)) (r : Result R Status) → targets ≡ request.targets → task ≡ request.task
    → IfErr r (λ s. told → (paths : List (List ℕ)) → IsListing [] files paths → IsNoPlan files paths targets task request.force s)
    → IfErr r (λ s. told → (paths : List (List ℕ)) → IsListing [] files paths → IsUnrun files paths request s)
unrun_by told files request targets task (Ok found) same_targets same_task none = tt
unrun_by told files request targets task (Err s) same_targets same_task none = λ t paths lists.
    unrun_from files paths request s
    (subst (λ (w : List (List ℕ)). IsNoPlan files paths w request.task request.force s) same_targets (subst (λ (k : Option (List ℕ)). IsNoPlan files paths targets k request.force s) same_task (none t paths lists)))

-- the plan that was found is the request's
pub plan_by : (told : Type 0) (files : Files) (request : RunRequest) (targets : List (List ℕ)) (task : Option (List ℕ)) (r : Result Plan Status) → targets ≡ request.targets → task ≡ request.task
    → IfOk r (λ plan. told → (paths : List (List ℕ)) → IsListing [] files paths → HasPlan files paths targets task request.force plan)
    → IfOk r (λ plan. told → (paths : List (List ℕ)) → IsListing [] files paths → IsRunPlan files paths request plan)
plan_by told files request targets task (Ok plan) same_targets same_task has = λ t paths lists.
    subst (λ (w : List (List ℕ)). HasPlan files paths w request.task request.force plan) same_targets (subst (λ (k : Option (List ℕ)). HasPlan files paths targets k request.force plan) same_task (has t paths lists))
plan_by told files request targets task (Err s) same_targets same_task has = tt
