-- Refusals of plans, passed on.
use Rattle.std.proofs.Common.{◌≡◌, ◌∙◌, sym, ap, subst, inl, inr, List, ℕ, Option, Some, None, Result, Ok, IfErr, false}
use Rattle.std.specs.Prelude.{IsErrAnd}
use Rattle.std.specs.Option.{option_map}
use Rattle.std.proofs.lemmas.Result.{err_from_is_err_and}
use Rattle.meta_model.specs.Refusal.{Refusal}
use Rattle.outside_traits.specs.Fault.{Counts}
use Rattle.datastore.specs.declared.fault.DataFault.{DataFault}
use Rattle.datastore.specs.Faults.{IsDataFault, data_refusal}
use Rattle.load_model.specs.LoadRefusal.{◌>>=◌, refused_as}
use Rattle.task_model.specs.TaskRefusal as task
use Rattle.meta_model.specs.Passing.{IsRefused}
use Rattle.meta_model.proofs.Passing.{refused_on, goes_on}
use Rattle.recipe_facts.proofs.Binding.{said}
use Rattle.script_gen.specs.Faults as script
use Rattle.plan_model.specs.PlanRefusal.{PlanRefusal, no_value}
use Rattle.task_plan.specs.declared.fault.PlanFault.{PlanFault}
use Rattle.task_plan.specs.Faults.{plan_refusal, IsPlanFault, IsTold, IsWantOfMemory, is_failure, plan_failed}

-- of the same
pub plan_same : {A : Type 0} (fault : PlanFault) (m n : Result A PlanRefusal) → m ≡ n → IsPlanFault fault n → IsPlanFault fault m
plan_same fault m n e h = subst (IsPlanFault fault) (sym e) h

-- a fault of the first answer is one of the whole
pub plan_on : {A B : Type 0} (fault : PlanFault) (m : Result A PlanRefusal) (f : A → Result B PlanRefusal) → IsPlanFault fault m → IsPlanFault fault (m >>= f)
plan_on fault m f h = record { told = refused_on (plan_refusal fault) m f h.told }

-- and of the second, where the first is no refusal
pub plan_later : {A B : Type 0} (fault : PlanFault) (m : Result A PlanRefusal) (a : A) (f : A → Result B PlanRefusal) → m ≡ Ok a → IsPlanFault fault (f a) → IsPlanFault fault (m >>= f)
plan_later fault m a f e h = plan_same fault (m >>= f) (f a) (goes_on m a f e) h

-- want of memory says nothing
pub plan_memory : {A : Type 0} (fault : PlanFault) (m : Result A PlanRefusal) → IsWantOfMemory fault → IsPlanFault fault m
plan_memory fault m e = record { told = subst (λ f. IsRefused (plan_refusal f) m) (sym e) tt }

-- what is told is what was meant
pub plan_told : {A : Type 0} (made : PlanFault) (o : Option PlanRefusal) (m : Result A PlanRefusal) → IsTold made o → IsRefused o m → IsPlanFault made m
plan_told made o m (inl e) h = record { told = subst (λ r. IsRefused r m) (sym e) h }
plan_told made o m (inr e) h = record { told = subst (λ r. IsRefused r m) (sym e) tt }

told_value : {A E : Type 0} (f : E → PlanRefusal) (o : Option E) (m : Result A E) → IsRefused o m → IsRefused (option_map f o) (refused_as f m)
told_value f None m h = tt
told_value f (Some r) m h = ap (refused_as f) h

-- a text that isn't expanded
pub plan_data : {A : Type 0} (file : List ℕ) (fault : DataFault) (made : PlanFault) (m : Result A Refusal) → IsTold made (option_map (no_value file) (data_refusal fault)) → IsDataFault fault m → IsPlanFault made (refused_as (no_value file) m)
plan_data file fault made m t h = plan_told made (option_map (no_value file) (data_refusal fault)) (refused_as (no_value file) m) t (told_value (no_value file) (data_refusal fault) m (said fault m h))

-- a fault that is handed on by `?`
pub plan_exit : {T A : Type 0} (r : Result T PlanFault) (fault : PlanFault) (meant : Result A PlanRefusal) → IsErrAnd r (λ e. e ≡ fault) → IsPlanFault fault meant → IfErr r (λ f. IsPlanFault f meant)
plan_exit r fault meant made h =
    let p = err_from_is_err_and r made in
    subst (λ a. IfErr a (λ f. IsPlanFault f meant)) (sym p.1) (subst (λ f. IsPlanFault f meant) (sym p.2) h)

-- the same of layers that tell what they hold
pub plan_exit_told : {T A : Type 0} {P : Type 0} (r : Result T PlanFault) (fault : PlanFault) (meant : Result A PlanRefusal) → IsErrAnd r (λ e. e ≡ fault) → (P → IsPlanFault fault meant) → IfErr r (λ f. P → IsPlanFault f meant)
plan_exit_told {P = P} r fault meant made h =
    let p = err_from_is_err_and r made in
    subst (λ a. IfErr a (λ f. P → IsPlanFault f meant)) (sym p.1) (subst (λ f. P → IsPlanFault f meant) (sym p.2) h)

-- a count of faults, where a fault is handed on
pub counts_exit : {T : Type 0} (r : Result T PlanFault) (fault : PlanFault) (before first now : ℕ) → IsErrAnd r (λ e. e ≡ fault) → before ≡ first → Counts before now (is_failure fault) → Counts first now (plan_failed r)
counts_exit r fault before first now made same h =
    let p = err_from_is_err_and r made in
    subst (λ b. Counts b now (plan_failed r)) same (subst (λ x. Counts before now x) (sym (ap plan_failed p.1 ∙ ap is_failure p.2)) h)

-- no read failed, where a fault is handed on that says so
pub not_read_exit : {T : Type 0} (r : Result T PlanFault) (fault : PlanFault) → IsErrAnd r (λ e. e ≡ fault) → is_failure fault ≡ false → plan_failed r ≡ false
not_read_exit r fault made h =
    let p = err_from_is_err_and r made in
    ap plan_failed p.1 ∙ ap is_failure p.2 ∙ h

-- want of memory that is handed on by `?`
pub memory_exit : {T A : Type 0} (r : Result T PlanFault) (meant : Result A PlanRefusal) → IsErrAnd r IsWantOfMemory → IfErr r (λ f. IsPlanFault f meant)
memory_exit r meant made =
    let p = err_from_is_err_and r made in
    subst (λ a. IfErr a (λ f. IsPlanFault f meant)) (sym p.1) (plan_memory p.0 meant p.2)
