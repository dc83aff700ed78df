-- What the plan of a run, and a fault in its place, say of the words.
use Rattle.std.proofs.Common.{◌≡◌, inl, inr, sym, ap, subst, refl, ℕ, Bool, false, List, Option, Some, None, Result, Ok, Err, IfOk, IfErr}
use Rattle.meta_model.specs.declared.event.Status.{Status}
use Rattle.meta_model.specs.declared.facts.Graph.{Graph}
use Rattle.meta_model.specs.declared.plan.Plan.{Plan}
use Rattle.load_model.specs.Loading.{sources_of}
use Rattle.meta_model.specs.declared.event.Status.TheVariants.{OutOfMemory}
use Rattle.project_reading.specs.Answered.{is_failed_read, mode_failed}
use Rattle.project_reading.specs.Faults.{IsToldAs}
use Rattle.meta_model.specs.Passing.{IsRefused}
use Rattle.answer_model.specs.RunAsked.{Asked}
use Rattle.answer_model.specs.Runs.{IsRun}
use Rattle.target_graph.specs.Runs.{IsNoRun}
use Rattle.plan_model.specs.Inputs.{Files}
use Rattle.plan_model.specs.PlanRefusal.{PlanRefusal}
use Rattle.plan_model.specs.Sound.{IsSound}
use Rattle.task_plan.specs.declared.fault.PlanFault.{PlanFault}
use Rattle.task_plan.specs.Faults.{IsPlanFault, plan_refusal}
use Rattle.answer_model.specs.Plans.{plan_under, HasPlan, no_run, no_plan}
use Rattle.target_plan.specs.Checked.{IsTurnedBack, unsound_plan}
use Rattle.target_plan.specs.Plans.{IsNoPlan}
use Rattle.answer_model.specs.PlanStatus.{plan_status}
use Rattle.target_plan.specs.Steps.{IsNoPlanOf}

-- the status of a fault says why there is no plan
pub status_told : (fault : PlanFault) (status : Status) (m : Result Plan PlanRefusal) → IsToldAs status plan_status (plan_refusal fault) → IsPlanFault fault m → IsNoPlanOf m status
status_told fault status m told h = by (plan_refusal fault) told h.told
  where
    by : (o : Option PlanRefusal) → IsToldAs status plan_status o → IsRefused o m → IsNoPlanOf m status
    by o (inl e) r = inl (inl e)
    by o (inr (inl e)) r = inl (inr e)
    by None (inr (inr e)) r = absurd (cc)
    by (Some refusal) (inr (inr e)) r = inr (refusal, r, cc)

-- the plan of a run is that of its words
pub has_plan : (files : Files) (paths words : List (List ℕ)) (task : Option (List ℕ)) (force : Bool) (what : Asked) (graph : Graph) (threads : ℕ) (made : Plan)
    → IsRun (sources_of files) paths words task what graph threads → plan_under force files what.set graph threads ≡ Ok made → HasPlan files paths words task force made
has_plan files paths words task force what graph threads made run is = record { what = what; graph = graph; threads = threads; is_run = run; is_plan = is }

-- and why a run has none is why its words have none
pub has_no_plan : (files : Files) (paths words : List (List ℕ)) (task : Option (List ℕ)) (force : Bool) (what : Asked) (graph : Graph) (threads : ℕ) (status : Status)
    → IsRun (sources_of files) paths words task what graph threads → IsNoPlanOf (plan_under force files what.set graph threads) status → IsNoPlan files paths words task force status
has_no_plan files paths words task force what graph threads status run (inl device) = inl device
has_no_plan files paths words task force what graph threads status run (inr why) = inr (no_plan why.0 (record { what = what; graph = graph; threads = threads; is_run = run; none = why.1 }) why.2)

-- words without a run have no plan
pub run_refused : (files : Files) (paths words : List (List ℕ)) (task : Option (List ℕ)) (force : Bool) (status : Status) → IsNoRun (sources_of files) paths words task status → IsNoPlan files paths words task force status
run_refused files paths words task force status (inl device) = inl device
run_refused files paths words task force status (inr why) = inr (no_run why)

-- the plan that was checked is the one that was found
pub same_plan : (P : Plan → Type 0) (found : Plan) (answer : Result Plan Status) → IfOk answer (λ plan. plan ≡ found) → P found → IfOk answer P
same_plan P found (Ok plan) same p = subst P (sym same) p
same_plan P found (Err status) same p = tt

-- what is said of want of memory, and of a plan that isn't sound, is said of a plan that is turned back
pub of_turned_back : (P : Status → Type 0) (found : Plan) (answer : Result Plan Status) → IfErr answer (IsTurnedBack found) → P OutOfMemory → ((IsSound found → ⊥) → P unsound_plan) → IfErr answer P
of_turned_back P found (Ok plan) back memory unsound = tt
of_turned_back P found (Err status) (inl is) memory unsound = subst P (sym is) memory
of_turned_back P found (Err status) (inr back) memory unsound = subst P (sym back.1) (unsound back.0)

-- no layers failed where it is
pub none_failed : (found : Plan) (answer : Result Plan Status) → IfErr answer (IsTurnedBack found) → false ≡ mode_failed answer
none_failed found (Ok plan) back = refl
none_failed found (Err status) (inl is) = ap is_failed_read (sym is)
none_failed found (Err status) (inr back) = ap is_failed_read (sym back.1)
