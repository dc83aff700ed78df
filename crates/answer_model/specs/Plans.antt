-- Which words have a plan, and what other words are refused with.
use Rattle.std.specs.Prelude.{◌≡◌, ℕ, Bool, List, Option, Result, Ok, Err, if◌then◌else◌}
use Rattle.meta_model.specs.declared.event.Status.{Status}
use Rattle.meta_model.specs.declared.facts.Graph.{Graph}
use Rattle.meta_model.specs.declared.plan.Plan.{Plan}
use Rattle.load_model.specs.Loading.{sources_of}
use Rattle.load_model.specs.Facts.{RecipeSet}
use Rattle.plan_model.specs.Inputs.{Files}
use Rattle.plan_model.specs.PlanRefusal.{PlanRefusal}
use Rattle.plan_model.specs.Plans.{plan_of, forced_plan_of}
use Rattle.answer_model.specs.RunAsked.{Asked}
use Rattle.answer_model.specs.Runs.{IsRun, IsRunRefused}
use Rattle.answer_model.specs.PlanStatus.{plan_status}

-- the plan of a graph, with the option `-f` or without it
abbrev pub plan_under : Bool → Files → RecipeSet → Graph → ℕ → Result Plan PlanRefusal
plan_under force files set graph threads = if force then forced_plan_of files set graph threads else plan_of files set graph threads

-- The words have this plan: that of the graph of their tasks, with their number of threads.
pub record HasPlan (files : Files) (paths words : List (List ℕ)) (task : Option (List ℕ)) (force : Bool) (plan : Plan) : Type 0 where
  pub what : Asked
  pub graph : Graph
  pub threads : ℕ
  pub is_run : IsRun (sources_of files) paths words task what graph threads
  pub is_plan : plan_under force files what.set graph threads ≡ Ok plan

-- The words have a run whose graph has no plan, for this reason.
pub record HasNoPlan (files : Files) (paths words : List (List ℕ)) (task : Option (List ℕ)) (force : Bool) (refusal : PlanRefusal) : Type 0 where
  pub what : Asked
  pub graph : Graph
  pub threads : ℕ
  pub is_run : IsRun (sources_of files) paths words task what graph threads
  pub none : plan_under force files what.set graph threads ≡ Err refusal

-- The words have no plan, and this status says why: they have no run, or its graph has no plan (own rule: in this order).
pub data IsPlanRefused (files : Files) (paths words : List (List ℕ)) (task : Option (List ℕ)) (force : Bool) (status : Status) : Type 0 where
  no_run : IsRunRefused (sources_of files) paths words task status → IsPlanRefused files paths words task force status
  no_plan : (refusal : PlanRefusal) → HasNoPlan files paths words task force refusal → status ≡ plan_status refusal → IsPlanRefused files paths words task force status
