-- Which parts of a run have a plan, and what others are refused with.
use Rattle.std.specs.Prelude.{◌≡◌, ℕ, Bool, List, Ok, Err}
use Rattle.meta_model.specs.declared.event.Status.{Status}
use Rattle.meta_model.specs.declared.facts.Graph.{Graph}
use Rattle.meta_model.specs.declared.plan.Plan.{Plan}
use Rattle.meta_model.specs.Threads.{AreThreads}
use Rattle.load_model.specs.Loading.{Sources, sources_of}
use Rattle.plan_model.specs.Inputs.{Files}
use Rattle.plan_model.specs.PlanRefusal.{PlanRefusal}
use Rattle.answer_model.specs.Said.{threads_status}
use Rattle.answer_model.specs.GraphStatus.{IsGraphStatus}
use Rattle.answer_model.specs.PlanStatus.{plan_status}
use Rattle.answer_model.specs.Plans.{plan_under}
use Rattle.answer_model.specs.RunAsked.{Asked, threads_text}
use Rattle.answer_model.specs.Runs.{HasGraph, HasThreads}
use Rattle.multi_config.specs.declared.parts.ConfigTargets.{ConfigTargets}
use Rattle.multi_config.specs.Project.{asked_part}

-- The run of a part: what it asks for, its graph, and the number of threads, which its configuration says.
pub record IsPartRun (sources : Sources) (paths : List (List ℕ)) (part : ConfigTargets) (what : Asked) (made : Graph) (number : ℕ) : Type 0 where
  pub asked : asked_part sources paths part ≡ Ok what
  pub graph : HasGraph what made
  pub threads : HasThreads what number

-- The part has no run, and this status says why: what it asks for is refused, there is no graph, the value of BB_NUMBER_THREADS is refused, or it is no
-- number of threads. Of these steps the first that is refused is told (own rule).
pub data IsPartRunRefused (sources : Sources) (paths : List (List ℕ)) (part : ConfigTargets) (status : Status) : Type 0 where
  asking : asked_part sources paths part ≡ Err status → IsPartRunRefused sources paths part status
  graph : (what : Asked) → asked_part sources paths part ≡ Ok what → IsGraphStatus what.set.facts what.targets status → IsPartRunRefused sources paths part status
  value : (what : Asked) (graph : Graph) → asked_part sources paths part ≡ Ok what → HasGraph what graph → threads_text what ≡ Err status → IsPartRunRefused sources paths part status
  threads : (what : Asked) (graph : Graph) (text : List ℕ) → asked_part sources paths part ≡ Ok what → HasGraph what graph → threads_text what ≡ Ok text → ((threads : ℕ) → AreThreads text threads → ⊥)
      → status ≡ threads_status text → IsPartRunRefused sources paths part status

-- The part has this plan: that of the graph of its targets' tasks in its configuration, with the number of threads there.
pub record HasPartPlan (files : Files) (paths : List (List ℕ)) (part : ConfigTargets) (force : Bool) (plan : Plan) : Type 0 where
  pub what : Asked
  pub graph : Graph
  pub threads : ℕ
  pub is_run : IsPartRun (sources_of files) paths part what graph threads
  pub is_plan : plan_under force files what.set graph threads ≡ Ok plan

-- The part has a run whose graph has no plan, for this reason.
pub record HasNoPartPlan (files : Files) (paths : List (List ℕ)) (part : ConfigTargets) (force : Bool) (refusal : PlanRefusal) : Type 0 where
  pub what : Asked
  pub graph : Graph
  pub threads : ℕ
  pub is_run : IsPartRun (sources_of files) paths part what graph threads
  pub none : plan_under force files what.set graph threads ≡ Err refusal

-- The part has no plan, and this status says why: it has no run, or its graph has no plan (own rule: in this order).
pub data IsPartRefused (files : Files) (paths : List (List ℕ)) (part : ConfigTargets) (force : Bool) (status : Status) : Type 0 where
  no_run : IsPartRunRefused (sources_of files) paths part status → IsPartRefused files paths part force status
  no_plan : (refusal : PlanRefusal) → HasNoPartPlan files paths part force refusal → status ≡ plan_status refusal → IsPartRefused files paths part force status
