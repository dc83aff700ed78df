-- The tasks of a plan, one after another.
use Rattle.std.proofs.Common.{◌≡◌, ◌∙◌, refl, sym, ap, ℕ, suc, ◌+◌, ◌<◌, add-one, List, [], ◌∷◌, ◌++◌, length, drop, get_or, Bool, true, false, ◌||◌, nat_eq, Result, Ok, Err}
use Rattle.std.specs.List.{list_any}
use Rattle.std.proofs.lemmas.List.{drop_more}
use Rattle.meta_model.specs.declared.facts.Node.{Node}
use Rattle.meta_model.specs.declared.facts.Graph.{Graph}
use Rattle.meta_model.specs.declared.plan.Plan.{Plan}
use Rattle.meta_model.specs.declared.plan.PlanTask.{PlanTask}
use Rattle.load_model.specs.LoadRefusal.{◌>>=◌}
use Rattle.load_model.specs.Facts.{RecipeSet}
use Rattle.meta_model.specs.Passing.{behind}
use Rattle.meta_model.proofs.Passing.{goes_on, behind_more}
use Rattle.plan_model.specs.PlanRefusal.{PlanRefusal}
use Rattle.plan_model.specs.Inputs.{Files}
use Rattle.plan_model.specs.Plans.{Sums, no_sums, Planned, planned_node, tasks_planned, forced_from, plan_of, forced, forced_plan_of}
use Rattle.task_plan.specs.declared.fault.PlanFault.{PlanFault}
use Rattle.task_plan.specs.Faults.{IsPlanFault}
use Rattle.task_plan.specs.Steps.{forced_tasks}
use Rattle.task_plan.proofs.Faulting.{plan_same, plan_on}

-- a task that is forced, where its number is one of these
abbrev pub marked : ℕ → List ℕ → PlanTask → PlanTask
marked n forced task = record task { nostamp = task.nostamp || list_any (nat_eq n) forced }

first_step : (n : ℕ) (forced : List ℕ) (r : Result Planned PlanRefusal) (rest : Planned → Result (List PlanTask) PlanRefusal)
    → ((r >>= λ first. rest first >>= λ others. Ok (first.task ∷ others)) >>= λ tasks. Ok (forced_from n forced tasks))
    ≡ (r >>= λ first. (rest first >>= λ tasks. Ok (forced_from (suc n) forced tasks)) >>= λ others. Ok (marked n forced first.task ∷ others))
first_step n forced (Err e) rest = refl
first_step n forced (Ok first) rest = by (rest first)
  where
    by : (q : Result (List PlanTask) PlanRefusal) → ((q >>= λ others. Ok (first.task ∷ others)) >>= λ tasks. Ok (forced_from n forced tasks)) ≡ ((q >>= λ tasks. Ok (forced_from (suc n) forced tasks)) >>= λ others. Ok (marked n forced first.task ∷ others))
    by (Err e) = refl
    by (Ok tasks) = refl

module _ (files : Files) (set : RecipeSet) (forced : List ℕ) where
  abbrev after : ℕ → List Node → Planned → Result (List PlanTask) PlanRefusal
  after n nodes first = forced_tasks files set first.sums (suc n) forced nodes >>= λ others. Ok (marked n forced first.task ∷ others)

  at_node : (sums : Sums) (nodes : List Node) (i : ℕ) (node : Node) → node ≡ get_or nodes i node → i < length nodes → forced_tasks files set sums i forced (drop i nodes) ≡ (planned_node files set node sums >>= after i (drop (i + 1) nodes))
  at_node sums nodes i node is lt =
      ap (λ l. forced_tasks files set sums i forced l) (drop_more nodes i node lt ∙ ap (λ w. w ∷ drop (i + 1) nodes) (sym is))
      ∙ first_step i forced (planned_node files set node sums) (λ first. tasks_planned files set first.sums (drop (i + 1) nodes))

  pub goes_on_node : (whole : Result (List PlanTask) PlanRefusal) (before : List PlanTask) (sums next : Sums) (nodes : List Node) (i : ℕ) (node : Node) (task : PlanTask) → node ≡ get_or nodes i node → i < length nodes
      → whole ≡ behind before (forced_tasks files set sums i forced (drop i nodes)) → planned_node files set node sums ≡ Ok (record { task = task; sums = next })
      → whole ≡ behind (before ++ marked i forced task ∷ []) (forced_tasks files set next (i + 1) forced (drop (i + 1) nodes))
  goes_on_node whole before sums next nodes i node task is lt w e =
      w ∙ ap (behind before) (at_node sums nodes i node is lt ∙ goes_on (planned_node files set node sums) (record { task = task; sums = next }) (after i (drop (i + 1) nodes)) e)
      ∙ behind_more before (marked i forced task ∷ []) (forced_tasks files set next (suc i) forced (drop (i + 1) nodes))
      ∙ ap (λ n. behind (before ++ marked i forced task ∷ []) (forced_tasks files set next n forced (drop (i + 1) nodes))) (sym (add-one i))

  pub node_fault : (whole : Result (List PlanTask) PlanRefusal) (before : List PlanTask) (sums : Sums) (nodes : List Node) (i : ℕ) (node : Node) (fault : PlanFault) → node ≡ get_or nodes i node → i < length nodes
      → whole ≡ behind before (forced_tasks files set sums i forced (drop i nodes)) → IsPlanFault fault (planned_node files set node sums) → IsPlanFault fault whole
  node_fault whole before sums nodes i node fault is lt w h =
      plan_same fault whole (behind before (planned_node files set node sums >>= after i (drop (i + 1) nodes))) (w ∙ ap (behind before) (at_node sums nodes i node is lt))
      (plan_on fault (planned_node files set node sums >>= after i (drop (i + 1) nodes)) (λ rest. Ok (before ++ rest)) (plan_on fault (planned_node files set node sums) (after i (drop (i + 1) nodes)) h))

-- plans of these tasks

or_false : (b : Bool) → (b || false) ≡ b
or_false true = refl
or_false false = refl

unforced : (n : ℕ) (tasks : List PlanTask) → forced_from n [] tasks ≡ tasks
unforced n [] = refl
unforced n (task ∷ tasks) = ap (λ b. record task { nostamp = b } ∷ forced_from (suc n) [] tasks) (or_false task.nostamp) ∙ ap (λ l. task ∷ l) (unforced (suc n) tasks)

abbrev pub plan_made : Graph → ℕ → List PlanTask → Plan
plan_made graph threads tasks = record { threads = threads; targets = graph.targets; tasks = tasks }

plan_by : (graph : Graph) (threads : ℕ) (r : Result (List PlanTask) PlanRefusal) → (r >>= λ tasks. Ok (plan_made graph threads tasks)) ≡ ((r >>= λ tasks. Ok (forced_from 0 [] tasks)) >>= λ tasks. Ok (plan_made graph threads tasks))
plan_by graph threads (Err e) = refl
plan_by graph threads (Ok tasks) = ap (λ l. Ok (plan_made graph threads l)) (sym (unforced 0 tasks))

pub plan_is : (files : Files) (set : RecipeSet) (graph : Graph) (threads : ℕ) → plan_of files set graph threads ≡ (forced_tasks files set no_sums 0 [] graph.nodes >>= λ tasks. Ok (plan_made graph threads tasks))
plan_is files set graph threads = plan_by graph threads (tasks_planned files set no_sums graph.nodes)

forced_by : (graph : Graph) (threads : ℕ) (r : Result (List PlanTask) PlanRefusal) → ((r >>= λ tasks. Ok (plan_made graph threads tasks)) >>= λ plan. Ok (forced plan)) ≡ ((r >>= λ tasks. Ok (forced_from 0 graph.targets tasks)) >>= λ tasks. Ok (plan_made graph threads tasks))
forced_by graph threads (Err e) = refl
forced_by graph threads (Ok tasks) = refl

pub forced_is : (files : Files) (set : RecipeSet) (graph : Graph) (threads : ℕ) → forced_plan_of files set graph threads ≡ (forced_tasks files set no_sums 0 graph.targets graph.nodes >>= λ tasks. Ok (plan_made graph threads tasks))
forced_is files set graph threads = forced_by graph threads (tasks_planned files set no_sums graph.nodes)
