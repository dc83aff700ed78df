-- Targets have one graph.
use Rattle.std.proofs.Common.{◌≡◌, ◌≢◌, ◌∙◌, sym, ap, refl, subst, ℕ, zero, suc, ◌<◌, inl, inr, arith, List, [], ◌∷◌, map, length, Option, Some, None, slice_get}
use Rattle.std.specs.Ordering.{nat_cmp, is_eq, ordering_reverse, ordering_then}
use Rattle.std.specs.declared.cmp.Ordering.{Ordering}
use Rattle.std.specs.declared.cmp.Ordering.TheVariants.{Less, Equal, Greater}
use Rattle.std.specs.Cmp.Lexicographic.{slice_cmp}
use Rattle.std.specs.Option.{option_map, option_map_or}
use Rattle.std.specs.List.Sorted.{IsStrictlyIncreasing}
use Rattle.std.proofs.lemmas.Bool.{cases_lt}
use Rattle.std.specs.Cmp.{nat_cmp_is}
use Rattle.std.proofs.lemmas.Option.{slice_get-get_or}
use Rattle.std.proofs.lemmas.List.Kept.{AllPairs-from_increasing}
use Rattle.std.proofs.lemmas.Cmp.{nat_cmp_total, nat_list_cmp_total}
use Rattle.std.proofs.lemmas.Map.Text.{is_eq-slice_cmp}
use Rattle.meta_model.proofs.Bools.{same_text}
use Rattle.meta_model.specs.declared.facts.FactSet.{FactSet}
use Rattle.meta_model.specs.declared.facts.RecipeFacts.{RecipeFacts}
use Rattle.meta_model.specs.declared.facts.Target.{Target}
use Rattle.meta_model.specs.declared.facts.TaskId.{TaskId}
use Rattle.meta_model.specs.declared.facts.Node.{Node}
use Rattle.meta_model.specs.declared.facts.Graph.{Graph}
use Rattle.meta_model.specs.Needs.{Task, Needs}
use Rattle.meta_model.specs.Walks.{IsDepth}
use Rattle.meta_model.specs.TaskGraph.{IsGraph, IsReached, HasDependencies, id_of, node_task, node_at, node_cmp}
use Rattle.plan_model.specs.Sound.{HasGoodNames}
use Rattle.plan_model.proofs.Reached.{all_at, pair_at, reached_is_task, in_facts}
use Rattle.plan_model.proofs.Sorted.{IsOrdered, Has, ordered_from, ordered_once}

-- ---- orders

then_equal : (p q r s : Ordering) → p ≡ ordering_reverse r → q ≡ ordering_reverse s → (ordering_then p q ≡ Greater → ⊥) → (ordering_then r s ≡ Greater → ⊥) → (p ≡ Equal) × ((q ≡ Greater → ⊥) × (s ≡ Greater → ⊥))
then_equal Equal q Equal s e f a b = (refl, (a, b))
then_equal Equal q Less s e f a b = absurd (cc)
then_equal Equal q Greater s e f a b = absurd (cc)
then_equal Less q Greater s e f a b = absurd (b refl)
then_equal Less q Less s e f a b = absurd (cc)
then_equal Less q Equal s e f a b = absurd (cc)
then_equal Greater q r s e f a b = absurd (a refl)

reverse_then : (p q : Ordering) → ordering_reverse (ordering_then p q) ≡ ordering_then (ordering_reverse p) (ordering_reverse q)
reverse_then Less q = refl
reverse_then Equal q = refl
reverse_then Greater q = refl

only_equal : (p q : Ordering) → p ≡ ordering_reverse q → (p ≡ Greater → ⊥) → (q ≡ Greater → ⊥) → p ≡ Equal
only_equal Equal q e a b = refl
only_equal Greater q e a b = absurd (a refl)
only_equal Less Greater e a b = absurd (b refl)
only_equal Less Less e a b = absurd (cc)
only_equal Less Equal e a b = absurd (cc)

same_words : (xs ys : List ℕ) → slice_cmp nat_cmp xs ys ≡ Equal → xs ≡ ys
same_words xs ys e = same_text xs ys (sym (is_eq-slice_cmp xs ys) ∙ ap is_eq e)

same_number : (x y : ℕ) → nat_cmp x y ≡ Equal → x ≡ y
same_number x y e = elim (cases_lt x y) [
  | inl lt ↦ let f : Less ≡ Equal = nat_cmp_is x y Less lt ∙ e in absurd (cc)
  | inr le ↦ elim (cases_lt y x) [
    | inl gt ↦ let f : Greater ≡ Equal = nat_cmp_is x y Greater gt ∙ e in absurd (cc)
    | inr ge ↦ omega arith
  ]
]

-- what a node is found by: its depth, its PN and its task
abbrev Key : Type 0
Key = ℕ × (List ℕ × List ℕ)

abbrev key_of : Node → Key
key_of node = (node.depth, (node.id.pn, node.id.task))

abbrev words_cmp : List ℕ × List ℕ → List ℕ × List ℕ → Ordering
words_cmp a b = ordering_then (slice_cmp nat_cmp a.0 b.0) (slice_cmp nat_cmp a.1 b.1)

abbrev key_cmp : Key → Key → Ordering
key_cmp a b = ordering_then (nat_cmp a.0 b.0) (words_cmp a.1 b.1)

-- a key stands before another
abbrev Before : Key → Key → Type 0
Before a b = (key_cmp a b ≡ Greater → ⊥) × (a ≡ b → ⊥)

words_turned : (a b : List ℕ × List ℕ) → words_cmp a b ≡ ordering_reverse (words_cmp b a)
words_turned a b =
    (λ i. ordering_then (nat_list_cmp_total.antisymm a.0 b.0 i) (nat_list_cmp_total.antisymm a.1 b.1 i))
    ∙ sym (reverse_then (slice_cmp nat_cmp b.0 a.0) (slice_cmp nat_cmp b.1 a.1))

one_key : (a b : Key) → (key_cmp a b ≡ Greater → ⊥) → (key_cmp b a ≡ Greater → ⊥) → a ≡ b
one_key a b f g =
    let first = then_equal (nat_cmp a.0 b.0) (words_cmp a.1 b.1) (nat_cmp b.0 a.0) (words_cmp b.1 a.1) (nat_cmp_total.antisymm a.0 b.0) (words_turned a.1 b.1) f g in
    let second = then_equal (slice_cmp nat_cmp a.1.0 b.1.0) (slice_cmp nat_cmp a.1.1 b.1.1) (slice_cmp nat_cmp b.1.0 a.1.0) (slice_cmp nat_cmp b.1.1 a.1.1)
    (nat_list_cmp_total.antisymm a.1.0 b.1.0) (nat_list_cmp_total.antisymm a.1.1 b.1.1) first.1.0 first.1.1 in
    let third = only_equal (slice_cmp nat_cmp a.1.1 b.1.1) (slice_cmp nat_cmp b.1.1 a.1.1) (nat_list_cmp_total.antisymm a.1.1 b.1.1) second.1.0 second.1.1 in
    let depth = same_number a.0 b.0 first.0 in
    let pn = same_words a.1.0 b.1.0 second.0 in
    let task = same_words a.1.1 b.1.1 third in
    λ i. (depth i, (pn i, task i))

strict : (a b : Key) → Before a b → Before b a → ⊥
strict a b p q = p.1 (one_key a b p.0 q.0)

below : (x y : ℕ) → x < y → y < x → ⊥
below x y p q = omega (arith, p, q)

-- ---- lists by their places

pub got : {A B : Type 0} (f : A → B) (xs : List A) (k : ℕ) (y : B) → slice_get (map f xs) k ≡ Some y → (x : A) × (slice_get xs k ≡ Some x) × (f x ≡ y)
got f [] k y e = absurd (cc)
got f (x ∷ xs) zero y e = let same : f x ≡ y = cc in (x, refl, same)
got f (x ∷ xs) (suc k) y e = got f xs k y e

pub put : {A B : Type 0} (f : A → B) (xs : List A) (k : ℕ) (x : A) → slice_get xs k ≡ Some x → slice_get (map f xs) k ≡ Some (f x)
put f [] k x e = absurd (cc)
put f (y ∷ ys) zero x e = let same : y ≡ x = cc in ap (λ z. Some (f z)) same
put f (y ∷ ys) (suc k) x e = put f ys k x e

no_more : {A B : Type 0} (f : A → B) (xs : List A) (k : ℕ) → slice_get (map f xs) k ≡ None → slice_get xs k ≡ None
no_more f [] k e = refl
no_more f (x ∷ xs) zero e = absurd (cc)
no_more f (x ∷ xs) (suc k) e = no_more f xs k e

pub there : {A : Type 0} (xs : List A) (k : ℕ) → k < length xs → (x : A) × (slice_get xs k ≡ Some x)
there [] k lt = absurd (omega (arith, lt))
there (x ∷ xs) zero lt = (x, refl)
there (x ∷ xs) (suc k) lt = there xs k (omega (arith, lt))

same_list : {A : Type 0} (xs ys : List A) → ((k : ℕ) → slice_get xs k ≡ slice_get ys k) → xs ≡ ys
same_list [] [] h = refl
same_list [] (y ∷ ys) h = let e = h zero in absurd (cc)
same_list (x ∷ xs) [] h = let e = h zero in absurd (cc)
same_list (x ∷ xs) (y ∷ ys) h =
    let e : Some x ≡ Some y = h zero in
    let first : x ≡ y = cc in
    let rest = same_list xs ys (λ k. h (suc k)) in
    λ i. first i ∷ rest i

-- lists whose images are the same, by a function that differs on what may stand in them
same_from_images : {A B : Type 0} (f : A → B) (P : A → Type 0) → ((x y : A) → P x → P y → f x ≡ f y → x ≡ y) → (xs ys : List A) → ((k : ℕ) (x : A) → slice_get xs k ≡ Some x → P x)
    → ((k : ℕ) (x : A) → slice_get ys k ≡ Some x → P x) → map f xs ≡ map f ys → xs ≡ ys
same_from_images f P one [] [] p q e = refl
same_from_images f P one [] (y ∷ ys) p q e = absurd (cc)
same_from_images f P one (x ∷ xs) [] p q e = absurd (cc)
same_from_images f P one (x ∷ xs) (y ∷ ys) p q e =
    let here : f x ≡ f y = cc in
    let behind : map f xs ≡ map f ys = cc in
    let first = one x y (p zero x refl) (q zero y refl) here in
    let rest = same_from_images f P one xs ys (λ k. p (suc k)) (λ k. q (suc k)) behind in
    λ i. first i ∷ rest i

-- ---- graphs

depth_once : {T : Type 0} (R : T → T → Type 0) (a b : T) (m n : ℕ) → a ≡ b → IsDepth R a m → IsDepth R b n → m ≡ n
depth_once R a b m n same p q =
    let q' = subst (λ x. IsDepth R x n) (sym same) q in
    omega (arith, p.longest n q'.walk.0 q'.walk.1, q'.longest m p.walk.0 p.walk.1)

module _ (facts : FactSet) (targets : List Target) (names : HasGoodNames facts) where
  -- recipes of one PN are one
  one_recipe : (m n : ℕ) (a b : RecipeFacts) → slice_get facts.recipes m ≡ Some a → slice_get facts.recipes n ≡ Some b → a.pn ≡ b.pn → m ≡ n
  one_recipe m n a b e f same = elim (cases_lt m n) [
    | inl lt ↦ absurd (pair_at (λ x y. x.pn ≢ y.pn) facts.recipes names.once m n a b lt e f same)
    | inr le ↦ elim (cases_lt n m) [
      | inl lt ↦ absurd (pair_at (λ x y. x.pn ≢ y.pn) facts.recipes names.once n m b a lt f e (sym same))
      | inr ge ↦ omega arith
    ]
  ]

  -- what is known of a node of a graph
  record IsNode (node : Node) : Type 0 where
    reached : IsReached facts targets (node_task node)
    id : node.id ≡ id_of facts (node_task node)
    depth : IsDepth (Needs facts) (node_task node) node.depth
    recipe : RecipeFacts
    there : slice_get facts.recipes node.recipe ≡ Some recipe
    pn : node.id.pn ≡ recipe.pn

  node_is : (graph : Graph) → IsGraph facts targets graph → (k : ℕ) (node : Node) → slice_get graph.nodes k ≡ Some node → IsNode node
  node_is graph is k node e =
      let reached = all_at (λ m. IsReached facts targets (node_task m)) graph.nodes is.sound k node e in
      let id = all_at (λ m. m.id ≡ id_of facts (node_task m)) graph.nodes is.written k node e in
      let there = in_facts facts (node_task node) (reached_is_task facts targets (node_task node) reached) in
      record {
        reached = reached;
        id = id;
        depth = all_at (λ m. IsDepth (Needs facts) (node_task m) m.depth) graph.nodes is.depths k node e;
        recipe = there.recipe;
        there = there.there;
        pn = ap (λ (i : TaskId). i.pn) id ∙ ap (λ o. option_map_or (λ r. r.pn) o []) there.there;
      }

  -- nodes of one key are of one task
  same_task : (m n : Node) → IsNode m → IsNode n → key_of m ≡ key_of n → node_task m ≡ node_task n
  same_task m n a b e =
      let pn : m.id.pn ≡ n.id.pn = ap (λ k. k.1.0) e in
      let task : m.id.task ≡ n.id.task = ap (λ k. k.1.1) e in
      let recipe = one_recipe m.recipe n.recipe a.recipe b.recipe a.there b.there (sym a.pn ∙ pn ∙ b.pn) in
      λ i. (recipe i, task i)

  -- and nodes of one task have one key
  same_key : (m n : Node) → IsNode m → IsNode n → node_task m ≡ node_task n → key_of m ≡ key_of n
  same_key m n a b e =
      let id = a.id ∙ ap (id_of facts) e ∙ sym b.id in
      let depth = depth_once (Needs facts) (node_task m) (node_task n) m.depth n.depth e a.depth b.depth in
      λ i. (depth i, ((id i).pn, (id i).task))

  module _ (graph : Graph) (is : IsGraph facts targets graph) where
    keys_ordered : IsOrdered Before (map key_of graph.nodes)
    keys_ordered = ordered_from Before (map key_of graph.nodes) each
      where
        each : (i j : ℕ) (x y : Key) → i < j → slice_get (map key_of graph.nodes) i ≡ Some x → slice_get (map key_of graph.nodes) j ≡ Some y → Before x y
        each i j x y lt e f =
            let m = got key_of graph.nodes i x e in
            let n = got key_of graph.nodes j y f in
            let up = pair_at (λ a b. node_cmp a b ≡ Greater → ⊥) graph.nodes is.ascend i j m.0 n.0 lt m.1 n.1 in
            let apart = pair_at (λ a b. node_task a ≡ node_task b → ⊥) graph.nodes is.once i j m.0 n.0 lt m.1 n.1 in
            let known = same_task m.0 n.0 (node_is graph is i m.0 m.1) (node_is graph is j n.0 n.1) in
            ((λ g. up (ap (λ k. key_cmp k (key_of n.0)) m.2 ∙ ap (key_cmp x) n.2 ∙ g)), (λ s. apart (known (m.2 ∙ s ∙ sym n.2))))

    -- the node of a task that is reached
    node_for : (a : Task) → IsReached facts targets a → (k : ℕ) × (node : Node) × (slice_get graph.nodes k ≡ Some node) × (node_task node ≡ a)
    node_for a r = let h = is.whole a r in (h.0, h.1, slice_get-get_or graph.nodes h.0 h.1 h.2 ∙ ap Some h.3, h.4)

  module _ (g h : Graph) (a : IsGraph facts targets g) (b : IsGraph facts targets h) where
    key_there : (z : Key) → Has (map key_of g.nodes) z → Has (map key_of h.nodes) z
    key_there z (k, e) =
        let m = got key_of g.nodes k z e in
        let known = node_is g a k m.0 m.1 in
        let n = node_for h b (node_task m.0) known.reached in
        (n.0, put key_of h.nodes n.0 n.1 n.2 ∙ ap Some (same_key n.1 m.0 (node_is h b n.0 n.1 n.2) known n.3 ∙ m.2))

  module _ (g h : Graph) (a : IsGraph facts targets g) (b : IsGraph facts targets h) where
    same_keys : map key_of g.nodes ≡ map key_of h.nodes
    same_keys = ordered_once Before strict (map key_of g.nodes) (map key_of h.nodes) (keys_ordered g a) (keys_ordered h b) (key_there g h a b) (key_there h g b a)

    -- the node at the same place
    across : (k : ℕ) (m : Node) → slice_get g.nodes k ≡ Some m → (n : Node) × (slice_get h.nodes k ≡ Some n) × (node_task m ≡ node_task n) × (key_of n ≡ key_of m)
    across k m e =
        let n = got key_of h.nodes k (key_of m) (ap (λ l. slice_get l k) (sym same_keys) ∙ put key_of g.nodes k m e) in
        (n.0, n.1, same_task m n.0 (node_is g a k m e) (node_is h b k n.0 n.1) (sym n.2), n.2)

    tasks_at : (k : ℕ) → node_at g k ≡ node_at h k
    tasks_at k = by (slice_get g.nodes k) refl
      where
        by : (o : Option Node) → slice_get g.nodes k ≡ o → node_at g k ≡ node_at h k
        by (Some m) e = let n = across k m e in ap (option_map node_task) e ∙ ap Some n.2 ∙ sym (ap (option_map node_task) n.1)
        by None e =
            let none = no_more key_of h.nodes k (ap (λ l. slice_get l k) (sym same_keys) ∙ nothing_put g.nodes k e) in
            ap (option_map node_task) e ∙ sym (ap (option_map node_task) none)
          where
            nothing_put : (xs : List Node) (j : ℕ) → slice_get xs j ≡ None → slice_get (map key_of xs) j ≡ None
            nothing_put [] j e = refl
            nothing_put (x ∷ xs) zero e = absurd (cc)
            nothing_put (x ∷ xs) (suc j) e = nothing_put xs j e

  -- what a node needs at its place in one graph it needs in the other
  module _ (g h : Graph) (a : IsGraph facts targets g) (b : IsGraph facts targets h) where
    dep_there : (m n : Node) → HasDependencies facts g m → HasDependencies facts h n → node_task m ≡ node_task n → (d : ℕ) → Has m.deps d → Has n.deps d
    dep_there m n p q same d (k, e) =
        let needed = all_at (λ k. (c : Task) × (node_at g k ≡ Some c) × Needs facts (node_task m) c) m.deps p.sound k d e in
        let at : node_at h d ≡ Some needed.0 = sym (tasks_at g h a b d) ∙ needed.1 in
        let whole = q.whole d needed.0 at (subst (λ t. Needs facts t needed.0) same needed.2) in
        (whole.0, slice_get-get_or n.deps whole.0 d whole.1 ∙ ap Some whole.2)

  ascending : (xs : List ℕ) → IsStrictlyIncreasing xs → IsOrdered (λ x y. x < y) xs
  ascending xs up = ordered_from (λ x y. x < y) xs (λ i j x y lt e f. pair_at (λ x y. x < y) xs (AllPairs-from_increasing xs up) i j x y lt e f)

  module _ (g h : Graph) (a : IsGraph facts targets g) (b : IsGraph facts targets h) where
    same_node : (k : ℕ) (m n : Node) → slice_get g.nodes k ≡ Some m → slice_get h.nodes k ≡ Some n → m ≡ n
    same_node k m n e f =
        let other = across g h a b k m e in
        let is_other : Some n ≡ Some other.0 = sym f ∙ other.1 in
        let same : n ≡ other.0 = cc in
        let task : node_task m ≡ node_task n = other.2 ∙ ap node_task (sym same) in
        let key : key_of n ≡ key_of m = ap key_of same ∙ other.3 in
        let p = all_at (HasDependencies facts g) g.nodes a.dependencies k m e in
        let q = all_at (HasDependencies facts h) h.nodes b.dependencies k n f in
        let deps = ordered_once (λ x y. x < y) below m.deps n.deps (ascending m.deps p.ascend) (ascending n.deps q.ascend) (dep_there g h a b m n p q task) (dep_there h g b a n m q p (sym task)) in
        let x = node_is g a k m e in
        let y = node_is h b k n f in
        let id : m.id ≡ n.id = x.id ∙ ap (id_of facts) task ∙ sym y.id in
        let depth = sym (ap (λ k. k.0) key) in
        λ i. record { id = id i; recipe = (task i).0; deps = deps i; depth = depth i }

    nodes_are : g.nodes ≡ h.nodes
    nodes_are = same_list g.nodes h.nodes each
      where
        each : (k : ℕ) → slice_get g.nodes k ≡ slice_get h.nodes k
        each k = by (slice_get g.nodes k) (slice_get h.nodes k) refl refl
          where
            by : (o p : Option Node) → slice_get g.nodes k ≡ o → slice_get h.nodes k ≡ p → o ≡ p
            by (Some m) (Some n) e f = ap Some (same_node k m n e f)
            by (Some m) None e f = let n = across g h a b k m e in let bad : None ≡ Some n.0 = sym f ∙ n.1 in absurd (cc)
            by None (Some n) e f = let m = across h g b a k n f in let bad : None ≡ Some m.0 = sym e ∙ m.1 in absurd (cc)
            by None None e f = refl

    -- a target's number is that of its one node
    one_number : (j k : ℕ) → j < length g.nodes → k < length g.nodes → node_at g j ≡ node_at g k → j ≡ k
    one_number j k p q e =
        let x = there g.nodes j p in
        let y = there g.nodes k q in
        let same : node_task x.0 ≡ node_task y.0 = let s : Some (node_task x.0) ≡ Some (node_task y.0) = sym (ap (option_map node_task) x.1) ∙ e ∙ ap (option_map node_task) y.1 in cc in
        elim (cases_lt j k) [
          | inl lt ↦ absurd (pair_at (λ m n. node_task m ≡ node_task n → ⊥) g.nodes a.once j k x.0 y.0 lt x.1 y.1 same)
          | inr le ↦ elim (cases_lt k j) [
            | inl gt ↦ absurd (pair_at (λ m n. node_task m ≡ node_task n → ⊥) g.nodes a.once k j y.0 x.0 gt y.1 x.1 (sym same))
            | inr ge ↦ omega arith
          ]
        ]

    targets_are : g.targets ≡ h.targets
    targets_are =
        same_from_images (node_at g) (λ k. k < length g.nodes) one_number g.targets h.targets
        (λ k x e. all_at (λ n. n < length g.nodes) g.targets a.found k x e)
        (λ k x e. subst (λ l. x < length l) (sym nodes_are) (all_at (λ n. n < length h.nodes) h.targets b.found k x e))
        (a.ends ∙ sym b.ends ∙ sym (map_same h.targets))
      where
        map_same : (xs : List ℕ) → map (node_at g) xs ≡ map (node_at h) xs
        map_same [] = refl
        map_same (x ∷ xs) = λ i. tasks_at g h a b x i ∷ map_same xs i

-- Targets have one graph, where no two recipes have one PN.
pub one_graph : (facts : FactSet) (targets : List Target) (g h : Graph) → HasGoodNames facts → IsGraph facts targets g → IsGraph facts targets h → g ≡ h
one_graph facts targets g h names a b = λ i. record { nodes = nodes_are facts targets names g h a b i; targets = targets_are facts targets names g h a b i }
