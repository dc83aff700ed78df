-- The nodes of a graph: their recipes and names are there, and each needs nodes before it.
use Rattle.std.proofs.Common.{◌≡◌, ◌∙◌, sym, ap, refl, subst, ℕ, zero, suc, ◌<◌, ◌≤◌, ◌⊎◌, inl, inr, arith, length, List, [], ◌∷◌, Bool, true, false, Option, Some, None, Result, Ok, Err, All, get_or, if◌then◌else◌, slice_get}
use Rattle.std.specs.Prelude.{Any, AllPairs, is_some, find, bytes_eq}
use Rattle.std.specs.Option.{option_map, option_and_then}
use Rattle.std.specs.Ordering.{nat_cmp, ordering_then}
use Rattle.std.specs.declared.cmp.Ordering.TheVariants.{Greater}
use Rattle.std.specs.Cmp.{nat_cmp_is}
use Rattle.std.proofs.lemmas.Option.{get_or_from_slice_get, slice_get_within, slice_get-get_or}
use Rattle.std.proofs.lemmas.Bool.{cases_lt}
use Rattle.meta_model.proofs.Bools.{same_text}
use Rattle.meta_model.specs.declared.facts.FactSet.{FactSet}
use Rattle.meta_model.specs.declared.facts.RecipeFacts.{RecipeFacts}
use Rattle.meta_model.specs.declared.facts.TaskFacts.{TaskFacts}
use Rattle.meta_model.specs.declared.facts.Target.{Target}
use Rattle.meta_model.specs.declared.facts.Node.{Node}
use Rattle.meta_model.specs.declared.facts.Graph.{Graph}
use Rattle.meta_model.specs.Walks.{Walk, IsDepth}
use Rattle.meta_model.specs.Needs.{Task, Needs, by_order, by_depends, by_deptask, by_rdeptask, by_recrdeptask, task_of, is_task}
use Rattle.meta_model.specs.Providers.{provider}
use Rattle.meta_model.specs.GraphRefusal.{GraphRefusal, target_task, task_there, no_such_task, unprovided, pn_of}
use Rattle.meta_model.specs.TaskGraph.{IsReached, node_task, node_at, node_cmp, id_cmp, HasDependencies, IsGraph}

-- an item at a place
pub all_at : {A : Type 0} (P : A → Type 0) (xs : List A) → All P xs → (n : ℕ) (x : A) → slice_get xs n ≡ Some x → P x
all_at P xs h n x e = subst P (get_or_from_slice_get xs n x x e) (h n x (slice_get_within xs n x e))

pub pair_at : {A : Type 0} (R : A → A → Type 0) (xs : List A) → AllPairs R xs → (i j : ℕ) (x y : A) → i < j → slice_get xs i ≡ Some x → slice_get xs j ≡ Some y → R x y
pair_at R xs h i j x y lt e f =
    let d = h i j x lt (slice_get_within xs j y f) in
    subst (λ a. R a y) (get_or_from_slice_get xs i x x e) (subst (λ b. R (get_or xs i x) b) (get_or_from_slice_get xs j y x f) d)

pub all_from : {A : Type 0} (P : A → Type 0) (xs : List A) → ((n : ℕ) (x : A) → slice_get xs n ≡ Some x → P x) → All P xs
all_from P xs h k d lt = h k (get_or xs k d) (slice_get-get_or xs k d lt)

pub pairs_from : {A : Type 0} (R : A → A → Type 0) (xs : List A) → ((i j : ℕ) (x y : A) → i < j → slice_get xs i ≡ Some x → slice_get xs j ≡ Some y → R x y) → AllPairs R xs
pairs_from R xs h i j d lt within = h i j (get_or xs i d) (get_or xs j d) lt (slice_get-get_or xs i d (omega arith)) (slice_get-get_or xs j d within)

-- what is reached is a task of the facts

needed_is_task : (facts : FactSet) (a b : Task) → Needs facts a b → is_task facts b ≡ true
needed_is_task facts a b (by_order t h) = t
needed_is_task facts a b (by_depends t h) = t
needed_is_task facts a b (by_deptask t h) = t
needed_is_task facts a b (by_rdeptask t h) = t
needed_is_task facts a b (by_recrdeptask t h) = t

led_is_task : (facts : FactSet) (n : ℕ) (a b : Task) → is_task facts a ≡ true → Walk (Needs facts) n a b → is_task facts b ≡ true
led_is_task facts zero a b t w = subst (λ x. is_task facts x ≡ true) w t
led_is_task facts (suc n) a b t w = led_is_task facts n w.0 b (needed_is_task facts a w.0 w.1) w.2

there_is_task : (facts : FactSet) (name task : List ℕ) (r : Result ℕ (List (List ℕ))) (a : Task) → task_there facts name task r ≡ Ok a → is_task facts a ≡ true
there_is_task facts name task (Err pns) a e = absurd (let n : ◌≡◌ {A = Result Task GraphRefusal} (Err (unprovided name pns)) (Ok a) = e in cc)
there_is_task facts name task (Ok n) a e = by (is_task facts (n, task)) refl e
  where
    by : (b : Bool) → is_task facts (n, task) ≡ b → (if b then Ok (n, task) else Err (no_such_task (pn_of facts n) task)) ≡ Ok a → is_task facts a ≡ true
    by true t h = let k : ◌≡◌ {A = Result Task GraphRefusal} (Ok (n, task)) (Ok a) = h in let s : (n, task) ≡ a = cc in subst (λ x. is_task facts x ≡ true) s t
    by false t h = absurd (let k : ◌≡◌ {A = Result Task GraphRefusal} (Err (no_such_task (pn_of facts n) task)) (Ok a) = h in cc)

any_at : {A : Type 0} (P : A → Type 0) (xs : List A) → Any P xs → (x : A) × P x
any_at P xs h = (h.1, h.4)

pub reached_is_task : (facts : FactSet) (targets : List Target) (a : Task) → IsReached facts targets a → is_task facts a ≡ true
reached_is_task facts targets a r =
    let target = any_at (λ target. target_task facts target ≡ Ok r.0) targets r.1 in
    led_is_task facts r.2.0 r.0 a (there_is_task facts target.0.name target.0.task (provider facts target.0.name) r.0 target.1) r.2.1

-- what a task of the facts is
pub record IsInFacts (facts : FactSet) (a : Task) : Type 0 where
  pub recipe : RecipeFacts
  pub there : slice_get facts.recipes a.0 ≡ Some recipe
  pub number : ℕ
  pub task : TaskFacts
  pub at : slice_get recipe.tasks number ≡ Some task
  pub name : task.task ≡ a.1

found_at : (name : List ℕ) (tasks : List TaskFacts) (t : TaskFacts) → find (λ t. bytes_eq t.task name) tasks ≡ Some t → (n : ℕ) × (slice_get tasks n ≡ Some t) × (t.task ≡ name)
found_at name [] t e = absurd (cc)
found_at name (first ∷ rest) t e = by (bytes_eq first.task name) refl (λ h. found_at name rest t h) e
  where
    by : (b : Bool) → bytes_eq first.task name ≡ b → (find (λ t. bytes_eq t.task name) rest ≡ Some t → (n : ℕ) × (slice_get rest n ≡ Some t) × (t.task ≡ name)) → (if b then Some first else find (λ t. bytes_eq t.task name) rest) ≡ Some t → (n : ℕ) × (slice_get (first ∷ rest) n ≡ Some t) × (t.task ≡ name)
    by true s later h = (0, h, let k : first ≡ t = cc in ap (λ x. x.task) (sym k) ∙ same_text first.task name s)
    by false s later h = let n = later h in (suc n.0, n.1, n.2)

pub in_facts : (facts : FactSet) (a : Task) → is_task facts a ≡ true → IsInFacts facts a
in_facts facts a h = by (slice_get facts.recipes a.0) refl h
  where
    with : (recipe : RecipeFacts) → slice_get facts.recipes a.0 ≡ Some recipe → (o : Option TaskFacts) → task_of a.1 recipe ≡ o → is_some o ≡ true → IsInFacts facts a
    with recipe e None f g = absurd (cc)
    with recipe e (Some t) f g = let at = found_at a.1 recipe.tasks t f in record { recipe = recipe; there = e; number = at.0; task = t; at = at.1; name = at.2 }

    by : (o : Option RecipeFacts) → slice_get facts.recipes a.0 ≡ o → is_some (option_and_then (task_of a.1) o) ≡ true → IsInFacts facts a
    by None e g = absurd (cc)
    by (Some recipe) e g = with recipe e (task_of a.1 recipe) refl g

-- depths fall

deeper : (facts : FactSet) (a b : Task) (m n : ℕ) → Needs facts a b → IsDepth (Needs facts) a m → IsDepth (Needs facts) b n → n < m
deeper facts a b m n needs deep other =
    let far : suc n ≤ m = deep.longest (suc n) other.walk.0 (b, needs, other.walk.1) in omega arith

above_is_greater : (m n : ℕ) → n < m → nat_cmp m n ≡ Greater
above_is_greater m n lt = sym (nat_cmp_is m n Greater lt)

pub node_there : (graph : Graph) (k : ℕ) (b : Task) → node_at graph k ≡ Some b → (node : Node) × (slice_get graph.nodes k ≡ Some node) × (node_task node ≡ b)
node_there graph k b e = by (slice_get graph.nodes k) refl e
  where
    by : (o : Option Node) → slice_get graph.nodes k ≡ o → option_map node_task o ≡ Some b → (node : Node) × (slice_get graph.nodes k ≡ Some node) × (node_task node ≡ b)
    by None f g = absurd (cc)
    by (Some node) f g = (node, f, let h : node_task node ≡ b = cc in h)

-- each node needs nodes of lower numbers
pub needs_before : (facts : FactSet) (targets : List Target) (graph : Graph) → IsGraph facts targets graph → (n : ℕ) (node : Node) → slice_get graph.nodes n ≡ Some node → All (λ d. d < n) node.deps
needs_before facts targets graph is n node e = all_from (λ d. d < n) node.deps each
  where
    has : HasDependencies facts graph node
    has = all_at (HasDependencies facts graph) graph.nodes is.dependencies n node e

    each : (i d : ℕ) → slice_get node.deps i ≡ Some d → d < n
    each i d f =
        let dep = all_at (λ k. (b : Task) × (node_at graph k ≡ Some b) × Needs facts (node_task node) b) node.deps has.sound i d f in
        let there = node_there graph d dep.0 dep.1 in
        let needs : Needs facts (node_task node) (node_task there.0) = subst (Needs facts (node_task node)) (sym there.2) dep.2 in
        let below = deeper facts (node_task node) (node_task there.0) node.depth there.0.depth needs
        (all_at (λ m. IsDepth (Needs facts) (node_task m) m.depth) graph.nodes is.depths n node e)
        (all_at (λ m. IsDepth (Needs facts) (node_task m) m.depth) graph.nodes is.depths d there.0 there.1) in
        by there.0 there.1 below (cases_lt d n)
      where
        by : (other : Node) → slice_get graph.nodes d ≡ Some other → other.depth < node.depth → (d < n) ⊎ (n ≤ d) → d < n
        by other g below (inl lt) = lt
        by other g below (inr le) = elim (cases_lt n d) [
          | inl lt ↦ absurd (pair_at (λ m k. node_cmp m k ≡ Greater → ⊥) graph.nodes is.ascend n d node other lt e g (ap (λ o. ordering_then o (id_cmp node.id other.id)) (above_is_greater node.depth other.depth below)))
          | inr ge ↦ let same : n ≡ d = omega arith in let s : Some node ≡ Some other = sym e ∙ ap (slice_get graph.nodes) same ∙ g in let k : node ≡ other = cc in absurd (omega (arith, below, ap (λ m. m.depth) k))
        ]

-- the nodes of a graph are of recipes of its facts
pub graph_is_over : (facts : FactSet) (targets : List Target) (graph : Graph) → IsGraph facts targets graph → All (λ node. node.recipe < length facts.recipes) graph.nodes
graph_is_over facts targets graph is = all_from (λ node. node.recipe < length facts.recipes) graph.nodes each
  where
    each : (n : ℕ) (node : Node) → slice_get graph.nodes n ≡ Some node → node.recipe < length facts.recipes
    each n node e =
        let reached = all_at (λ m. IsReached facts targets (node_task m)) graph.nodes is.sound n node e in
        let a = in_facts facts (node_task node) (reached_is_task facts targets (node_task node) reached) in
        slice_get_within facts.recipes node.recipe a.recipe a.there
