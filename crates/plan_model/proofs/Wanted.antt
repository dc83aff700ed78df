-- Each task of the plan of a graph is a target, or one that another task needs directly.
use Rattle.std.proofs.Common.{◌≡◌, ◌∙◌, sym, ap, refl, subst, ℕ, zero, suc, ◌⊎◌, inl, inr, arith, List, [], ◌∷◌, ◌||◌, Some, slice_get, nat_eq}
use Rattle.std.specs.Prelude.{Contains}
use Rattle.std.specs.List.{list_any}
use Rattle.std.specs.Result.{result_ok}
use Rattle.std.proofs.lemmas.Bool.{cases_lt}
use Rattle.std.proofs.lemmas.Option.{get_or_from_slice_get, slice_get_within, slice_get-get_or}
use Rattle.std.specs.Option.{option_map}
use Rattle.meta_model.specs.declared.facts.FactSet.{FactSet}
use Rattle.meta_model.specs.declared.facts.Target.{Target}
use Rattle.meta_model.specs.declared.facts.Node.{Node}
use Rattle.meta_model.specs.declared.facts.Graph.{Graph}
use Rattle.meta_model.specs.declared.plan.Plan.{Plan}
use Rattle.meta_model.specs.declared.plan.PlanTask.{PlanTask}
use Rattle.meta_model.specs.Walks.{Walk}
use Rattle.meta_model.specs.Needs.{Task, Needs}
use Rattle.meta_model.specs.GraphRefusal.{target_task}
use Rattle.meta_model.specs.TaskGraph.{IsGraph, IsReached, IsTarget, HasDependencies, node_task, node_at}
use Rattle.load_model.specs.Facts.{RecipeSet}
use Rattle.plan_model.specs.Inputs.{Files}
use Rattle.plan_model.specs.Plans.{forced_from}
use Rattle.plan_model.specs.Sound.{AreWanted, PlanIsWanted, ForcedIsWanted}
use Rattle.plan_model.proofs.Planning.{IsOfGraph, IsOfNode, AreOfNodes, node_of, of_graph}
use Rattle.plan_model.proofs.Reached.{all_at, pair_at, node_there}
use Rattle.plan_model.proofs.OneGraph.{got, put, there}
use Rattle.plan_model.proofs.Soundness.{forced_many}

contains : (xs : List ℕ) (k x : ℕ) → slice_get xs k ≡ Some x → Contains xs x
contains xs k x e = (k, slice_get_within xs k x e, get_or_from_slice_get xs k x x e)

-- the last step of a walk
last_step : (facts : FactSet) (n : ℕ) (a b : Task) → Walk (Needs facts) (suc n) a b → (c : Task) × Walk (Needs facts) n a c × Needs facts c b
last_step facts zero a b w = (a, refl, subst (Needs facts a) w.2 w.1)
last_step facts (suc n) a b w = let l = last_step facts n w.0 b w.2 in (l.0, (w.0, w.1, l.1), l.2)

module _ (facts : FactSet) (targets : List Target) (graph : Graph) (is : IsGraph facts targets graph) where
  -- nodes of one task stand at one place
  one_place : (i j : ℕ) (m n : Node) → slice_get graph.nodes i ≡ Some m → slice_get graph.nodes j ≡ Some n → node_task m ≡ node_task n → i ≡ j
  one_place i j m n e f same = elim (cases_lt i j) [
    | inl lt ↦ absurd (pair_at (λ x y. node_task x ≡ node_task y → ⊥) graph.nodes is.once i j m n lt e f same)
    | inr le ↦ elim (cases_lt j i) [
      | inl gt ↦ absurd (pair_at (λ x y. node_task x ≡ node_task y → ⊥) graph.nodes is.once j i n m gt f e (sym same))
      | inr ge ↦ omega arith
    ]
  ]

  -- the node of what a target stands for is among the targets
  target_there : (t : ℕ) (node : Node) → slice_get graph.nodes t ≡ Some node → IsTarget facts targets (node_task node) → Contains graph.targets t
  target_there t node e h =
      let at = slice_get-get_or targets h.0 h.1 h.2 ∙ ap Some h.3 in
      let wanted = ap (λ l. slice_get l h.0) is.ends ∙ put (λ target. result_ok (target_task facts target)) targets h.0 h.1 at ∙ ap (λ r. Some (result_ok r)) h.4 in
      let number = got (node_at graph) graph.targets h.0 (Some (node_task node)) wanted in
      let other = node_there graph number.0 (node_task node) number.2 in
      let same : number.0 ≡ t = one_place number.0 t other.0 node other.1 e other.2 in
      contains graph.targets h.0 t (number.1 ∙ ap Some same)

  -- what a reached task needs is among the numbers of its node
  need_there : (t : ℕ) (node : Node) (c : Task) → slice_get graph.nodes t ≡ Some node → IsReached facts targets c → Needs facts c (node_task node) → (u : ℕ) × (other : Node) × (slice_get graph.nodes u ≡ Some other) × Contains other.deps t
  need_there t node c e reached needs =
      let h = is.whole c reached in
      let at = slice_get-get_or graph.nodes h.0 h.1 h.2 ∙ ap Some h.3 in
      let has = all_at (HasDependencies facts graph) graph.nodes is.dependencies h.0 h.1 at in
      (h.0, h.1, at, has.whole t (node_task node) (ap (option_map node_task) e) (subst (λ x. Needs facts x (node_task node)) (sym h.4) needs))

  -- a node is a target's, or another node needs it
  node_wanted : (t : ℕ) (node : Node) → slice_get graph.nodes t ≡ Some node → Contains graph.targets t ⊎ ((u : ℕ) × (other : Node) × (slice_get graph.nodes u ≡ Some other) × Contains other.deps t)
  node_wanted t node e = let r = all_at (λ m. IsReached facts targets (node_task m)) graph.nodes is.sound t node e in by r.0 r.1 r.2.0 r.2.1
    where
      by : (b : Task) → IsTarget facts targets b → (n : ℕ) → Walk (Needs facts) n b (node_task node) → Contains graph.targets t ⊎ ((u : ℕ) × (other : Node) × (slice_get graph.nodes u ≡ Some other) × Contains other.deps t)
      by b target zero w = inl (target_there t node e (subst (IsTarget facts targets) w target))
      by b target (suc n) w = let l = last_step facts n b (node_task node) w in inr (need_there t node l.0 e (b, target, (n, l.1)) l.2)

-- the task of a node
task_for : (files : Files) (set : RecipeSet) (nodes : List Node) (tasks : List PlanTask) → AreOfNodes files set nodes tasks → (n : ℕ) (node : Node) → slice_get nodes n ≡ Some node → (task : PlanTask) × (slice_get tasks n ≡ Some task) × IsOfNode files set node task
task_for files set [] tasks h n node e = absurd (cc)
task_for files set (first ∷ nodes) [] h n node e = absurd h
task_for files set (first ∷ nodes) (task ∷ tasks) h zero node e = (task, refl, subst (λ m. IsOfNode files set m task) (let k : first ≡ node = cc in k) h.0)
task_for files set (first ∷ nodes) (task ∷ tasks) h (suc n) node e = task_for files set nodes tasks h.1 n node e

wanted_in : (files : Files) (set : RecipeSet) (targets : List Target) (graph : Graph) (threads : ℕ) (plan : Plan) → IsGraph set.facts targets graph → IsOfGraph files set graph threads plan → AreWanted plan
wanted_in files set targets graph threads plan is of t lt =
    let task = there plan.tasks t lt in
    let node = node_of files set graph.nodes plan.tasks of.tasks_are t task.0 task.1 in
    elim (node_wanted set.facts targets graph is t node.0 node.1) [
      | inl target ↦ inl (subst (λ (l : List ℕ). Contains l t) (sym of.targets_are) target)
      | inr need ↦
          let above = task_for files set graph.nodes plan.tasks of.tasks_are need.0 need.1 need.2 in
          inr (need.0, above.0, above.1, subst (λ (l : List ℕ). Contains l t) (sym above.2.deps) need.3)
    ]

pub plan_is_wanted : PlanIsWanted
plan_is_wanted files set targets graph threads plan is e = wanted_in files set targets graph threads plan is (of_graph files set graph threads plan e)

-- forced tasks

-- a forced task needs what the task needs
forced_deps : (n : ℕ) (targets : List ℕ) (tasks : List PlanTask) (k : ℕ) (task : PlanTask) → slice_get tasks k ≡ Some task → (made : PlanTask) × (slice_get (forced_from n targets tasks) k ≡ Some made) × (task.deps ≡ made.deps)
forced_deps n targets [] k task e = absurd (cc)
forced_deps n targets (first ∷ tasks) zero task e = let same : first ≡ task = cc in (record first { nostamp = first.nostamp || list_any (nat_eq n) targets }, refl, ap (λ t. t.deps) (sym same))
forced_deps n targets (first ∷ tasks) (suc k) task e = forced_deps (suc n) targets tasks k task e

pub forced_is_wanted : ForcedIsWanted
forced_is_wanted plan wanted t lt = elim (wanted t (let l = forced_many zero plan.targets plan.tasks in omega (arith, lt, l))) [
  | inl target ↦ inl target
  | inr need ↦
      let made = forced_deps zero plan.targets plan.tasks need.0 need.1 need.2 in
      inr (need.0, made.0, made.1, subst (λ (l : List ℕ). Contains l t) made.2 need.3)
]
