-- What is answered of a request that isn't run.
use Rattle.std.proofs.Common.{◌≡◌, ◌≢◌, ◌⊎◌, inl, inr, ◌∙◌, sym, subst, refl, ℕ, true, false, List, [], ◌∷◌}
use Rattle.std.specs.Prelude.{All}
use Rattle.std.proofs.lemmas.List.Elements.{All-cons, All-nil}
use Rattle.std.proofs.lemmas.Bool.{false≢true}
use Rattle.outside_traits.specs.Bench.{Gives}
use Rattle.outside_traits.specs.Fault.{Counts, Rose}
use Rattle.outside_traits.specs.Store.{IsListing}
use Rattle.meta_model.specs.declared.event.Status.{Status}
use Rattle.meta_model.specs.declared.event.Status.TheVariants as status
use Rattle.meta_model.specs.declared.plan.Plan.{Plan}
use Rattle.project_reading.specs.Answered.{is_failed_read}
use Rattle.answer_model.specs.Answers.{is_refusal}
use Rattle.answer_model.specs.Project.{not_built}
use Rattle.target_plan.proofs.OnePlan.{plan_not_refused, plans_are_one}
use Rattle.run_model.specs.Build.{MayEndSo, is_unsteady}
use Rattle.build_resume.specs.Build.{is_collision}
use Rattle.answer_model.specs.Devices.{IsUnchanged}
use Rattle.answer_model.specs.declared.asked.RunRequest.{RunRequest}
use Rattle.bitbake_top.specs.Answers.{is_words_refusal}
use Rattle.answer_model.specs.Run.{Files, HasBuild, HasCause, IsCertain, IsRunPlan, IsUnrun, is_run_status}
use Rattle.bitbake_top.proofs.Devices.{unchanged_rose}
use Rattle.bitbake_top.proofs.Refusals.{plan_refused_is_built}

-- a request has one plan
pub one_plan : (files : Files) (paths : List (List ℕ)) (request : RunRequest) (one other : Plan) → IsListing [] files paths → IsRunPlan files paths request one → IsRunPlan files paths request other → one ≡ other
one_plan files paths request one other lists first second = plans_are_one files paths paths request.targets request.task request.force lists lists one other first second

-- a refusal isn't Ok, and neither is want of memory in its place
pub refused_not_ok : (s t : Status) → is_refusal s ≡ true → (t ≡ s) ⊎ (t ≡ status.OutOfMemory) → t ≡ status.Ok → ⊥
refused_not_ok s t refusal (inl same) ok = let h : false ≡ true = subst (λ (x : Status). is_refusal x ≡ true) (sym same ∙ ok) refusal in false≢true h
refused_not_ok s t refusal (inr memory) ok = let h : status.OutOfMemory ≡ status.Ok = sym memory ∙ ok in cc

-- where there is a plan, only want of memory or the layers keep its run from being begun
kept_by : (files : Files) (paths : List (List ℕ)) (request : RunRequest) (plan : Plan) (s : Status) → IsListing [] files paths → IsRunPlan files paths request plan → IsUnrun files paths request s
    → (s ≡ status.OutOfMemory) ⊎ (s ≡ status.ReadFault)
kept_by files paths request plan s lists has (inl memory) = inl memory
kept_by files paths request plan s lists has (inr (inl read)) = inr read
kept_by files paths request plan s lists has (inr (inr refused)) = absurd (plan_not_refused files paths paths request.targets request.task request.force lists lists plan s has refused)

read_failed_rose : (before now : ℕ) (s : Status) → Counts before now (is_failed_read s) → s ≡ status.ReadFault → Rose before now
read_failed_rose before now s counts read = let h : Counts before now true = subst (λ (x : Status). Counts before now (is_failed_read x)) read counts in h.rose

not_memory : (s : Status) → IsCertain s → s ≡ status.OutOfMemory → ⊥
not_memory s certain memory = subst IsCertain memory certain

pub unrun_fails : (files : Files) (paths : List (List ℕ)) (request : RunRequest) (gives : Gives) (s t : Status) (before now : ℕ) → IsListing [] files paths → IsUnrun files paths request s
    → (t ≡ s) ⊎ (t ≡ status.OutOfMemory) → Counts before now (is_failed_read s) → IsUnchanged before now → IsCertain t → HasBuild files paths request gives → ⊥
unrun_fails files paths request gives s t before now lists unrun (inr memory) counts same certain has = not_memory t certain memory
unrun_fails files paths request gives s t before now lists unrun (inl told) counts same certain has =
    elim (kept_by files paths request has.plan s lists has.planned unrun) [
      | inl memory ↦ not_memory t certain (told ∙ memory)
      | inr read ↦ unchanged_rose before now same (read_failed_rose before now s counts read)
    ]

-- the status that is answered says why, too
pub unrun_told : (files : Files) (paths : List (List ℕ)) (request : RunRequest) (s t : Status) → IsUnrun files paths request s → (t ≡ s) ⊎ (t ≡ status.OutOfMemory) → IsUnrun files paths request t
unrun_told files paths request s t unrun (inl same) = subst (IsUnrun files paths request) (sym same) unrun
unrun_told files paths request s t unrun (inr memory) = inl memory

-- no request is unrun since something isn't built
pub unrun_is_built : (files : Files) (paths : List (List ℕ)) (request : RunRequest) (s : Status) → IsUnrun files paths request s → s ≡ not_built → ⊥
unrun_is_built files paths request s (inl memory) e = let h : status.OutOfMemory ≡ not_built = sym memory ∙ e in cc
unrun_is_built files paths request s (inr (inl read)) e = let h : status.ReadFault ≡ not_built = sym read ∙ e in cc
unrun_is_built files paths request s (inr (inr refused)) e = plan_refused_is_built files paths request.targets request.task request.force s refused e

-- the cause of a refusal
refusal_cause : (disk : ℕ) (layers bench sink : Type 0) (s : Status) → is_refusal s ≡ true → (s ≡ status.ReadFault → layers) → HasCause layers disk bench sink s
refusal_cause disk layers bench sink status.Ok refusal read = absurd (false≢true refusal)
refusal_cause disk layers bench sink status.TaskFailed refusal read = absurd (false≢true refusal)
refusal_cause disk layers bench sink status.Usage refusal read = tt
refusal_cause disk layers bench sink (status.Metadata file line kind detail) refusal read = tt
refusal_cause disk layers bench sink status.DiskFault refusal read = absurd (false≢true refusal)
refusal_cause disk layers bench sink status.BenchFault refusal read = absurd (false≢true refusal)
refusal_cause disk layers bench sink status.ReadFault refusal read = read refl
refusal_cause disk layers bench sink status.WriteFault refusal read = absurd (false≢true refusal)
refusal_cause disk layers bench sink (status.Collision name held given) refusal read = absurd (false≢true refusal)
refusal_cause disk layers bench sink (status.Unsteady pn task held given) refusal read = absurd (false≢true refusal)
refusal_cause disk layers bench sink (status.Limit kind) refusal read = tt
refusal_cause disk layers bench sink status.OutOfMemory refusal read = tt
refusal_cause disk layers bench sink status.MirrorFault refusal read = absurd (false≢true refusal)

-- the cause of the status that is answered of a refusal
pub refused_cause : (disk before now : ℕ) (bench sink : Type 0) (s t : Status) → is_refusal s ≡ true → (t ≡ s) ⊎ (t ≡ status.OutOfMemory) → Counts before now (is_failed_read s) → HasCause (Rose before now) disk bench sink t
refused_cause disk before now bench sink s t refusal (inl same) counts = subst (HasCause (Rose before now) disk bench sink) (sym same) (refusal_cause disk (Rose before now) bench sink s refusal (read_failed_rose before now s counts))
refused_cause disk before now bench sink s t refusal (inr memory) counts = subst (HasCause (Rose before now) disk bench sink) (sym memory) tt

-- the cause of a fault of a run
pub run_cause : (layers : Type 0) (disk : ℕ) (bench sink : Type 0) (s : Status) → MayEndSo disk bench sink s → HasCause layers disk bench sink s
run_cause layers disk bench sink status.Ok cause = cause
run_cause layers disk bench sink status.TaskFailed cause = cause
run_cause layers disk bench sink status.Usage cause = tt
run_cause layers disk bench sink (status.Metadata file line kind detail) cause = tt
run_cause layers disk bench sink status.DiskFault cause = cause
run_cause layers disk bench sink status.BenchFault cause = cause
run_cause layers disk bench sink status.ReadFault cause = absurd cause
run_cause layers disk bench sink status.WriteFault cause = cause
run_cause layers disk bench sink (status.Collision name held given) cause = cause
run_cause layers disk bench sink (status.Unsteady pn task held given) cause = cause
run_cause layers disk bench sink (status.Limit kind) cause = tt
run_cause layers disk bench sink status.OutOfMemory cause = tt
run_cause layers disk bench sink status.MirrorFault cause = cause

-- what holds of the one plan holds of all that are handed back
pub all_of_one : (Z : Type 0) (P : Plan → Type 0) (plan : Plan) (plans : List Plan) → (plans ≡ plan ∷ []) ⊎ ((plans ≡ []) × Z) → P plan → All P plans
all_of_one Z P plan plans (inl one) holds = subst (All P) (sym one) (All-cons P plan [] holds (All-nil P))
all_of_one Z P plan plans (inr none) holds = subst (All P) (sym none.0) (All-nil P)

-- an answer that is no refusal hands the plan back
pub found_one : (plan : Plan) (plans : List Plan) (s : Status) → (plans ≡ plan ∷ []) ⊎ ((plans ≡ []) × (s ≡ status.OutOfMemory)) → is_refusal s ≡ false → (p : Plan) × (plans ≡ p ∷ [])
found_one plan plans s (inl one) begun = (plan, one)
found_one plan plans s (inr none) begun = absurd (let h : true ≡ false = subst (λ (x : Status). is_refusal x ≡ false) none.1 begun in false≢true (sym h))

-- a refusal is no other answer
pub refused_found : (s t : Status) → is_refusal s ≡ true → (t ≡ s) ⊎ (t ≡ status.OutOfMemory) → is_refusal t ≡ false → ⊥
refused_found s t refusal (inl same) begun = false≢true (sym (subst (λ (x : Status). is_refusal x ≡ false) same begun) ∙ refusal)
refused_found s t refusal (inr memory) begun = let h : true ≡ false = subst (λ (x : Status). is_refusal x ≡ false) memory begun in false≢true (sym h)

-- where there is a plan and no run was begun, memory ran out or the plan's text failed
pub unrun_of_run : (files : Files) (paths : List (List ℕ)) (request : RunRequest) (s : Status) → (s ≡ status.OutOfMemory) ⊎ (s ≡ status.WriteFault) → s ≢ status.WriteFault → IsUnrun files paths request s
unrun_of_run files paths request s (inl memory) other = inl memory
unrun_of_run files paths request s (inr write) other = absurd (other write)

-- a refusal doesn't say that an output differs
refusal_steady : (s : Status) → is_refusal s ≡ true → is_unsteady s ≡ false
refusal_steady status.Ok refusal = refl
refusal_steady status.TaskFailed refusal = refl
refusal_steady status.Usage refusal = refl
refusal_steady (status.Metadata file line kind detail) refusal = refl
refusal_steady status.DiskFault refusal = refl
refusal_steady status.BenchFault refusal = refl
refusal_steady status.ReadFault refusal = refl
refusal_steady status.WriteFault refusal = refl
refusal_steady (status.Collision name held given) refusal = refl
refusal_steady (status.Unsteady pn task held given) refusal = absurd (false≢true refusal)
refusal_steady (status.Limit kind) refusal = refl
refusal_steady status.OutOfMemory refusal = refl
refusal_steady status.MirrorFault refusal = refl

pub refused_steady : (s t : Status) → is_refusal s ≡ true → (t ≡ s) ⊎ (t ≡ status.OutOfMemory) → is_unsteady t ≡ false
refused_steady s t refusal (inl same) = subst (λ (x : Status). is_unsteady x ≡ false) (sym same) (refusal_steady s refusal)
refused_steady s t refusal (inr memory) = subst (λ (x : Status). is_unsteady x ≡ false) (sym memory) refl

-- an answer that is certain is no want of memory, and no collision
pub certain_ample : (s : Status) → IsCertain s → s ≡ status.OutOfMemory → ⊥
certain_ample s certain memory = subst IsCertain memory certain

pub certain_apart : (s : Status) → IsCertain s → is_collision s ≡ false
certain_apart status.Ok certain = refl
certain_apart status.TaskFailed certain = refl
certain_apart status.Usage certain = refl
certain_apart (status.Metadata file line kind detail) certain = refl
certain_apart status.DiskFault certain = refl
certain_apart status.BenchFault certain = refl
certain_apart status.ReadFault certain = refl
certain_apart status.WriteFault certain = refl
certain_apart (status.Collision name held given) certain = absurd certain
certain_apart (status.Unsteady pn task held given) certain = refl
certain_apart (status.Limit kind) certain = refl
certain_apart status.OutOfMemory certain = absurd certain
certain_apart status.MirrorFault certain = refl

-- a run doesn't end with a refusal
pub run_is_built : (disk : ℕ) (bench sink : Type 0) (s : Status) → MayEndSo disk bench sink s → s ≡ not_built → ⊥
run_is_built disk bench sink s cause e = subst (λ (x : Status). MayEndSo disk bench sink x) e cause

pub run_is_read : (disk : ℕ) (bench sink : Type 0) (s : Status) → MayEndSo disk bench sink s → s ≡ status.Usage → ⊥
run_is_read disk bench sink s cause e = subst (λ (x : Status). MayEndSo disk bench sink x) e cause

-- a run that was begun isn't refused any more
pub run_goes_on : (disk : ℕ) (bench sink : Type 0) (s : Status) → MayEndSo disk bench sink s → is_run_status s ≡ true
run_goes_on disk bench sink status.Usage cause = absurd cause
run_goes_on disk bench sink (status.Metadata file line kind detail) cause = absurd cause
run_goes_on disk bench sink status.ReadFault cause = absurd cause
run_goes_on disk bench sink (status.Limit kind) cause = absurd cause
run_goes_on disk bench sink s cause = refl

-- of none all have it
pub all_of_none : (P : Plan → Type 0) (plans : List Plan) → plans ≡ [] → All P plans
all_of_none P plans none = subst (All P) (sym none) (All-nil P)

-- the status that is answered where words are refused
pub words_refusal : (s t : Status) → is_words_refusal s ≡ true → (t ≡ s) ⊎ (t ≡ status.OutOfMemory) → is_words_refusal t ≡ true
words_refusal s t refusal (inl same) = subst (λ (x : Status). is_words_refusal x ≡ true) (sym same) refusal
words_refusal s t refusal (inr memory) = subst (λ (x : Status). is_words_refusal x ≡ true) (sym memory) refl

pub words_not_ok : (s : Status) → is_words_refusal s ≡ true → s ≡ status.Ok → ⊥
words_not_ok s refusal ok = let h : false ≡ true = subst (λ (x : Status). is_words_refusal x ≡ true) ok refusal in false≢true h

pub words_steady : (s : Status) → is_words_refusal s ≡ true → is_unsteady s ≡ false
words_steady status.Ok refusal = refl
words_steady status.TaskFailed refusal = refl
words_steady status.Usage refusal = refl
words_steady (status.Metadata file line kind detail) refusal = absurd (false≢true refusal)
words_steady status.DiskFault refusal = refl
words_steady status.BenchFault refusal = refl
words_steady status.ReadFault refusal = refl
words_steady status.WriteFault refusal = refl
words_steady (status.Collision name held given) refusal = refl
words_steady (status.Unsteady pn task held given) refusal = absurd (false≢true refusal)
words_steady (status.Limit kind) refusal = refl
words_steady status.OutOfMemory refusal = refl
words_steady status.MirrorFault refusal = refl
