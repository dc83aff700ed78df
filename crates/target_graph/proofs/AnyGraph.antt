-- Targets with a graph have no refusal.
use Rattle.std.proofs.Common.{◌≡◌, refl, sym, ap, subst, arith, ℕ, zero, suc, ◌+◌, ◌<◌, ◌≤◌, Bool, List, [], ◌∷◌, map, length, inl, inr, Ok, Err, bytes_eq}
use Rattle.std.specs.Prelude.{All, AllPairs, Contains, slice_index_or}
use Rattle.std.specs.Bool.{Decides}
use Rattle.std.specs.Ordering.{on}
use Rattle.std.specs.Cmp.{IsEquivalence}
use Rattle.std.specs.Cmp.Lexicographic.{on_texts_equal}
use Rattle.std.proofs.lemmas.Bool.Decides.{Decides-like}
use Rattle.std.proofs.lemmas.Slice.Eq.{bytes_eq-Decides}
use Rattle.std.proofs.lemmas.List.{length-map}
use Rattle.std.proofs.lemmas.List.Elements.{All-contains}
use Rattle.std.proofs.lemmas.Map.Made.{length-le_from_is_member, IsDistinct-from_AllPairs}
use Rattle.std.proofs.lemmas.Map.Views.{Contains-from_any, list_any-from_Contains}
use Rattle.meta_model.specs.declared.event.Status.{Status}
use Rattle.meta_model.specs.declared.facts.FactSet.{FactSet}
use Rattle.meta_model.specs.declared.facts.Target.{Target}
use Rattle.meta_model.specs.declared.facts.Node.{Node}
use Rattle.meta_model.specs.declared.facts.Graph.{Graph}
use Rattle.meta_model.specs.Walks.{Walk, IsDepth, IsCycle, ClosesAt}
use Rattle.meta_model.specs.Needs.{Task, Needs}
use Rattle.meta_model.specs.GraphRefusal.{GraphRefusal, target_task}
use Rattle.meta_model.specs.TaskGraph.{IsReached, IsGraph, HasNoRefusal, node_task, IsGraphRefusal}
use Rattle.answer_model.specs.GraphStatus.{IsGraphStatus, lacking, cycle, many}
use Rattle.answer_model.specs.RunAsked.{Asked}
use Rattle.answer_model.specs.Runs.{HasGraph}

-- nothing is asked for that nobody has
no_lack : (facts : FactSet) (targets : List Target) (refusal : GraphRefusal) → HasNoRefusal facts targets → IsGraphRefusal facts targets refusal → ⊥
no_lack facts targets refusal whole (inl any) =
    let found = whole.ends any.0 any.1 any.2 in
    let is : target_task facts any.1 ≡ Ok found.0 = subst (λ t. target_task facts t ≡ Ok found.0) any.3 found.1 in
    let not : target_task facts any.1 ≡ Err refusal = any.4 in
    absurd cc
no_lack facts targets refusal whole (inr r) = whole.tasks r.0 refusal r.1 r.2

-- walks one behind the other
joined : {T : Type 0} (R : T → T → Type 0) (m n k : ℕ) (a b c : T) → k ≡ m + n → Walk R m a b → Walk R n b c → Walk R k a c
joined R zero n k a b c e w v = let same : n ≡ k = omega (arith, e) in subst (λ j. Walk R j a c) same (subst (λ x. Walk R n x c) (sym w) v)
joined R (suc m) n zero a b c e w v = absurd (omega (arith, e))
joined R (suc m) n (suc k) a b c e w v = (w.0, w.1, joined R m n k w.0 b c (omega (arith, e)) w.2 v)

-- the walk round a cycle
round : {T : Type 0} (R : T → T → Type 0) (first a : T) (rest : List T) → ClosesAt R first (a ∷ rest) → (n : ℕ) × (1 ≤ n) × Walk R n a first
round R first a [] c = (1, omega arith, (first, c, refl))
round R first a (b ∷ rest) c = let w = round R first b rest c.1 in (suc w.0, omega arith, (b, c.0, w.2))

-- round and round it, at least so many steps
longer : {T : Type 0} (R : T → T → Type 0) (a : T) (n : ℕ) → 1 ≤ n → Walk R n a a → (d : ℕ) → (m : ℕ) × (d ≤ m) × Walk R m a a
longer R a n low w zero = (0, omega arith, refl)
longer R a n low w (suc d) = let more = longer R a n low w d in (n + more.0, (let h = more.1 in omega (arith, h, low)), joined R n more.0 (n + more.0) a a a refl w more.2)

-- what stands on a cycle has no depth
no_cycle : {T : Type 0} (R : T → T → Type 0) (a : T) (rest : List T) (depth : ℕ) → IsCycle R (a ∷ rest) → IsDepth R a depth → ⊥
no_cycle R a rest depth c d =
    let w = round R a a rest c in
    let m = longer R a w.0 w.1 w.2 (suc depth) in
    let least = m.1 in
    let most = d.longest m.0 a m.2 in
    absurd (omega (arith, least, most))

-- each task that is reached has a depth
has_depth : (facts : FactSet) (targets : List Target) (graph : Graph) (a : Task) → IsGraph facts targets graph → IsReached facts targets a → (depth : ℕ) × IsDepth (Needs facts) a depth
has_depth facts targets graph a g r =
    let w = g.whole a r in
    let at = subst (λ (n : Node). IsDepth (Needs facts) (node_task n) n.depth) w.3 (g.depths w.0 w.1 w.2) in
    (w.1.depth, subst (λ t. IsDepth (Needs facts) t w.1.depth) w.4 at)

no_task_cycle : (facts : FactSet) (targets : List Target) (graph : Graph) (tasks : List Task) → IsGraph facts targets graph → All (IsReached facts targets) tasks → IsCycle (Needs facts) tasks → ⊥
no_task_cycle facts targets graph [] g all c = absurd c
no_task_cycle facts targets graph (a ∷ rest) g all c = let d = has_depth facts targets graph a g (all 0 a (omega arith)) in no_cycle (Needs facts) a rest d.0 c d.1

-- a task as a text
abbrev text_of : Task → List ℕ
text_of a = a.0 ∷ a.1

abbrev same_task : Task → Task → Bool
same_task = on text_of bytes_eq

abbrev task_of : List ℕ → Task
task_of [] = (0, [])
task_of (n ∷ name) = (n, name)

decides : (a b : Task) → Decides (same_task a b) (a ≡ b)
decides a b = Decides-like (same_task a b) (λ e. ap task_of e) (λ e. ap text_of e) (bytes_eq-Decides (text_of a) (text_of b))

laws : IsEquivalence same_task
laws = on_texts_equal text_of

contains_map : {A B : Type 0} (f : A → B) (xs : List A) (k : ℕ) (x : A) (b : B) → k < length xs → slice_index_or xs k x ≡ x → f x ≡ b → Contains (map f xs) b
contains_map f [] k x b lt is e = absurd (omega (arith, lt))
contains_map f (y ∷ xs) zero x b lt is e = (0, omega arith, subst (λ z. f z ≡ b) (sym is) e)
contains_map f (y ∷ xs) (suc k) x b lt is e = let c = contains_map f xs k x b (omega (arith, lt)) is e in (suc c.0, (let below = c.1 in omega (arith, below)), c.2)

-- tasks that are reached, each once, are as many as the nodes at most
as_many : (facts : FactSet) (targets : List Target) (graph : Graph) (tasks : List Task) → IsGraph facts targets graph → AllPairs (λ a b. a ≡ b → ⊥) tasks → All (IsReached facts targets) tasks → length tasks ≤ length graph.nodes
as_many facts targets graph tasks g once all =
    let nodes = map node_task graph.nodes in
    let held : (q : Task) → Contains tasks q → Contains nodes q = λ q h. let w = g.whole q (All-contains (IsReached facts targets) tasks q all h) in contains_map node_task graph.nodes w.0 w.1 q w.2 w.3 w.4 in
    let few = length-le_from_is_member laws tasks nodes (IsDistinct-from_AllPairs decides tasks once) (λ q h. list_any-from_Contains laws q nodes (held q (Contains-from_any (λ x y e. (decides x y).0 e) q tasks h))) in
    let long = length-map graph.nodes node_task in
    omega (arith, few, long)

-- with a graph there is no refusal
pub graph_stands : (what : Asked) (graph : Graph) (status : Status) → HasGraph what graph → IsGraphStatus what.set.facts what.targets status → ⊥
graph_stands what graph status g (lacking refusal r is) = no_lack what.set.facts what.targets refusal g.whole r
graph_stands what graph status g (cycle ids c is) = no_task_cycle what.set.facts what.targets graph c.cycle g.graph c.reached c.closed
graph_stands what graph status g (many m is) =
    let least = as_many what.set.facts what.targets graph m.tasks g.graph m.once m.reached in
    let most = g.few in
    let beyond = m.many in
    absurd (omega (arith, least, most, beyond))
