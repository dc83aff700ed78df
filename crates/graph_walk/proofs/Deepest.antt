-- From the marks of a whole walk to depths, and from a path that meets itself to a cycle.
use Rattle.std.proofs.Common.{◌≡◌, sym, ◌∙◌, ap, subst, refl, arith, ℕ, zero, suc, ◌+◌, ◌-◌, ◌<◌, ◌≤◌, max, true, false, Bool, List, [], ◌∷◌, length, drop, map, get_or, fold, ◌⊎◌, inl, inr, All, Contains}
use Rattle.std.proofs.lemmas.Bool.{cases_eq, cases_lt}
use Rattle.std.proofs.lemmas.List.{get_or_past, get_or-drop, length-drop, length-map, get_or-map, get_or_default}
use Rattle.std.proofs.lemmas.List.Elements.{All-drop, All-map}
use Rattle.std.proofs.lemmas.Option.{get_or_from_slice_get}
use Rattle.meta_model.specs.Walks.{Walk, IsDepth, IsCycle, ClosesAt as ClosesTo}
use Rattle.graph_walk.specs.declared.marks.Mark.{Mark}
use Rattle.graph_walk.specs.declared.marks.Mark.TheVariants.{New, Open, Done}
use Rattle.graph_walk.specs.Edges.{AreWithin, edges_from, HasEdge}
use Rattle.graph_walk.specs.Marks.{mark_at, above, depth_over, depth_at, IsDone, IsMet, IsWalk, ClosesAt}
use Rattle.graph_walk.specs.Found.{HasDepths, HasCycle}

-- past all nodes nothing is marked
pub mark_past : (marks : List Mark) (v : ℕ) → length marks ≤ v → mark_at marks v ≡ New
mark_past marks v le = get_or_past marks v New le

pub depths_small : (edges : List (List ℕ)) (rings : Bool) (marks : List Mark) (left path : List ℕ) → IsWalk edges rings marks left path → (most : ℕ) → length edges < most → (v depth : ℕ) → mark_at marks v ≡ Done depth → depth < most
depths_small edges rings marks left path walk most few v depth is = by_place (cases_lt v (length edges))
  where
    by_place : (v < length edges) ⊎ (length edges ≤ v) → depth < most
    by_place (inl lt) = omega (arith, walk.small v depth lt is, few)
    by_place (inr le) = let e : New ≡ Done depth = sym (mark_past marks v (omega (arith, le, walk.marked))) ∙ is in absurd cc

-- a depth that isn't the start's is that above one of the nodes
attained : (marks : List Mark) (start depth : ℕ) (ws : List ℕ) → fold (λ depth w. max depth (above (mark_at marks w))) start ws ≡ depth → (start ≡ depth) ⊎ ((k : ℕ) × (k < length ws) × (above (mark_at marks (get_or ws k 0)) ≡ depth))
attained marks start depth [] e = inl e
attained marks start depth (w ∷ ws) e = later (attained marks (max start (above (mark_at marks w))) depth ws e)
  where
    here : (max start (above (mark_at marks w)) ≡ depth) → (start ≡ depth) ⊎ (start ≡ depth → ⊥) → (start ≡ depth) ⊎ ((k : ℕ) × (k < length (w ∷ ws)) × (above (mark_at marks (get_or (w ∷ ws) k 0)) ≡ depth))
    here m (inl s) = inl s
    here m (inr n) = inr (0, omega arith, omega (arith, m, n))

    later : (max start (above (mark_at marks w)) ≡ depth) ⊎ ((k : ℕ) × (k < length ws) × (above (mark_at marks (get_or ws k 0)) ≡ depth)) → (start ≡ depth) ⊎ ((k : ℕ) × (k < length (w ∷ ws)) × (above (mark_at marks (get_or (w ∷ ws) k 0)) ≡ depth))
    later (inl m) = here m (cases_eq start depth)
    later (inr (k, lt, is)) = inr (suc k, omega (arith, lt), is)

-- the depth over nodes is at least that above each of them
from_start : (marks : List Mark) (start : ℕ) (ws : List ℕ) → start ≤ fold (λ depth w. max depth (above (mark_at marks w))) start ws
from_start marks start [] = omega arith
from_start marks start (w ∷ ws) = omega (arith, from_start marks (max start (above (mark_at marks w))) ws)

pub at_least : (marks : List Mark) (start : ℕ) (ws : List ℕ) (k : ℕ) → k < length ws → above (mark_at marks (get_or ws k 0)) ≤ fold (λ depth w. max depth (above (mark_at marks w))) start ws
at_least marks start [] k lt = absurd (omega arith)
at_least marks start (w ∷ ws) zero lt = omega (arith, from_start marks (max start (above (mark_at marks w))) ws)
at_least marks start (w ∷ ws) (suc k) lt = at_least marks (max start (above (mark_at marks w))) ws k (omega (arith, lt))

module _ (edges : List (List ℕ)) (rings : Bool) (marks : List Mark) (left path : List ℕ) (within : AreWithin edges) (walk : IsWalk edges rings marks left path) (all : (v : ℕ) → v < length edges → IsDone marks v) where
  node_depth : ℕ → ℕ
  node_depth v = depth_at (mark_at marks v)

  depth_is : (v depth : ℕ) → mark_at marks v ≡ Done depth → node_depth v ≡ depth
  unfolding node_depth
  depth_is v depth is = ap depth_at is

  above_is : (v : ℕ) → v < length edges → above (mark_at marks v) ≡ node_depth v + 1
  above_is v lt = let done = all v lt in ap above done.1 ∙ ap (λ n. n + 1) (sym (depth_is v done.0 done.1))

  over_is : (v : ℕ) → v < length edges → node_depth v ≡ depth_over marks (edges_from edges v)
  over_is v lt = let done = all v lt in depth_is v done.0 done.1 ∙ walk.depths v done.0 lt done.1

  edge_within : (v w : ℕ) → v < length edges → HasEdge edges v w → w < length edges
  edge_within v w lt (k, inside, is) = subst (λ u. u < length edges) is (within v [] lt k w inside)

  below_it : (v w : ℕ) → v < length edges → HasEdge edges v w → node_depth w + 1 ≤ node_depth v
  below_it v w lt (k, inside, is) =
      let same : get_or (edges_from edges v) k 0 ≡ w = get_or_default (edges_from edges v) k 0 w inside ∙ is in
      let up : above (mark_at marks (get_or (edges_from edges v) k 0)) ≤ depth_over marks (edges_from edges v) = at_least marks 0 (edges_from edges v) k inside in
      omega (arith, up, ap (λ u. above (mark_at marks u)) same, above_is w (edge_within v w lt (k, inside, is)), over_is v lt)

  no_longer : (n v b : ℕ) → v < length edges → Walk (HasEdge edges) n v b → n ≤ node_depth v
  no_longer zero v b lt w = omega arith
  no_longer (suc n) v b lt (c, edge, rest) = omega (arith, no_longer n c b (edge_within v c lt edge) rest, below_it v c lt edge)

  reaches_down : (depth v : ℕ) → v < length edges → node_depth v ≡ depth → (b : ℕ) × Walk (HasEdge edges) depth v b
  reaches_down zero v lt is = (v, refl)
  reaches_down (suc depth) v lt is = by_node (attained marks 0 (suc depth) (edges_from edges v) (sym (over_is v lt) ∙ is)) (reaches_down depth)
    where
      by_node : (0 ≡ suc depth) ⊎ ((k : ℕ) × (k < length (edges_from edges v)) × (above (mark_at marks (get_or (edges_from edges v) k 0)) ≡ suc depth))
          → ((w : ℕ) → w < length edges → node_depth w ≡ depth → (b : ℕ) × Walk (HasEdge edges) depth w b) → (b : ℕ) × Walk (HasEdge edges) (suc depth) v b
      by_node (inl none) down = absurd (omega (arith, none))
      by_node (inr (k, inside, is)) down =
          let w = get_or (edges_from edges v) k 0 in
          let edge : HasEdge edges v w = (k, inside, get_or_default (edges_from edges v) k w 0 inside) in
          let lt_w : w < length edges = edge_within v w lt edge in
          let rest = down w lt_w (omega (arith, above_is w lt_w, is)) in
          (rest.0, (w, edge, rest.1))

  pub has_depths : (made : List ℕ) → made ≡ map depth_at marks → HasDepths edges made
  unfolding node_depth
  has_depths made is = record {
    long = ap (length {A = ℕ}) is ∙ length-map marks depth_at ∙ walk.marked;
    each = λ v lt. subst (IsDepth (HasEdge edges) v) (sym (depth_here v lt)) (record { walk = reaches_down (node_depth v) v lt refl; longest = λ n b w. no_longer n v b lt w });
    small = subst (λ (xs : List ℕ). All (λ depth. depth < length edges) xs) (sym is) (All-map (λ depth. depth < length edges) depth_at marks (λ k d lt. small_here (get_or marks k d) k d lt refl));
  }
    where
      depth_here : (v : ℕ) → v < length edges → get_or made v 0 ≡ node_depth v
      depth_here v lt = ap (λ (xs : List ℕ). get_or xs v 0) is ∙ get_or-map depth_at marks v New 0 (omega (arith, lt, walk.marked))

      small_here : (m : Mark) (k : ℕ) (d : Mark) → k < length marks → get_or marks k d ≡ m → depth_at m < length edges
      small_here New k d lt e = omega (arith, lt, walk.marked)
      small_here Open k d lt e = omega (arith, lt, walk.marked)
      small_here (Done depth) k d lt e = omega (arith, walk.small k depth (omega (arith, lt, walk.marked)) (get_or_default marks k New d lt ∙ e))

-- a whole walk without a path has done all nodes
pub all_done : (edges : List (List ℕ)) (rings : Bool) (marks : List Mark) (left path : List ℕ) → IsWalk edges rings marks left path → rings ≡ false → path ≡ [] → ((v : ℕ) → v < length edges → mark_at marks v ≡ New → ⊥) → (v : ℕ) → v < length edges → IsDone marks v
all_done edges rings marks left path walk none empty met v lt = by_mark (mark_at marks v) refl
  where
    not_open : IsMet edges rings path v → ⊥
    not_open (inl held) = omega (arith, held.1, ap (length {A = ℕ}) empty)
    not_open (inr ring) = let e : true ≡ false = sym ring.0 ∙ none in cc

    by_mark : (m : Mark) → mark_at marks v ≡ m → IsDone marks v
    by_mark New is = absurd (met v lt is)
    by_mark Open is = absurd (not_open (walk.opened v lt is))
    by_mark (Done depth) is = (depth, is)

-- nodes of which each leads to the next, and the last one to a given one
closes : {T : Type 0} (R : T → T → Type 0) (first d : T) (xs : List T) → 0 < length xs → ((i : ℕ) → i + 1 < length xs → R (get_or xs i d) (get_or xs (i + 1) d)) → R (get_or xs (length xs - 1) d) first → ClosesTo R first xs
closes R first d [] lt chain last = absurd (omega arith)
closes R first d (a ∷ []) lt chain last = last
closes R first d (a ∷ (b ∷ rest)) lt chain last = (
  chain 0 (omega arith),
  closes R first d (b ∷ rest) (omega arith)
      (λ i within. let up : suc i + 1 ≡ suc (i + 1) = omega arith in subst (λ n. R (get_or (b ∷ rest) i d) (get_or (a ∷ (b ∷ rest)) n d)) up (chain (suc i) (omega (arith, within))))
      (let place : length (a ∷ (b ∷ rest)) - 1 ≡ suc (length (b ∷ rest) - 1) = omega arith in subst (λ n. R (get_or (a ∷ (b ∷ rest)) n d) first) place last),
)

cycle_of : {T : Type 0} (R : T → T → Type 0) (d : T) (xs : List T) → 0 < length xs → ((i : ℕ) → i + 1 < length xs → R (get_or xs i d) (get_or xs (i + 1) d)) → R (get_or xs (length xs - 1) d) (get_or xs 0 d) → IsCycle R xs
cycle_of R d [] lt chain last = absurd (omega arith)
cycle_of R d (a ∷ rest) lt chain last = closes R a d (a ∷ rest) lt chain last

-- where the walk has given up no path, the path has the open node that its last node needs
pub on_path : (edges : List (List ℕ)) (rings : Bool) (path : List ℕ) (w : ℕ) → ClosesAt edges rings path w → rings ≡ false → Contains path w
on_path edges rings path w closes none = held closes.met
  where
    held : IsMet edges rings path w → Contains path w
    held (inl at) = at
    held (inr ring) = absurd (let e : true ≡ false = sym ring.0 ∙ none in cc)

-- the path from a node on that its last node needs
pub cycle_from : (edges : List (List ℕ)) (rings : Bool) (marks : List Mark) (left path : List ℕ) → IsWalk edges rings marks left path → (w place : ℕ) → ClosesAt edges rings path w → place < length path → get_or path place 0 ≡ w → HasCycle edges (drop place path)
cycle_from edges rings marks left path walk w place met lt at =
    let cut = drop place path in
    let long : length cut ≡ length path - place = length-drop place path in
    let here : (i : ℕ) → get_or cut i 0 ≡ get_or path (place + i) 0 = λ i. get_or-drop place path i 0 in
    let last_place : place + (length cut - 1) ≡ length path - 1 = omega (arith, long, lt) in
    let v = met.edge.0 in
    let last_is : get_or cut (length cut - 1) 0 ≡ v = here (length cut - 1) ∙ ap (λ n. get_or path n 0) last_place ∙ get_or_from_slice_get path (length path - 1) v 0 met.edge.1 in
    let first_place : place + 0 ≡ place = omega arith in
    let first_is : get_or cut 0 0 ≡ w = here 0 ∙ ap (λ n. get_or path n 0) first_place ∙ at in
    record {
      closed = cycle_of (HasEdge edges) 0 cut (omega (arith, long, lt)) (λ i within. step i within) (rw (last_is, first_is) met.edge.2);
      nodes = All-drop (λ v. v < length edges) place path walk.on_path;
    }
  where
    step : (i : ℕ) → i + 1 < length (drop place path) → HasEdge edges (get_or (drop place path) i 0) (get_or (drop place path) (i + 1) 0)
    step i within =
        let up : place + (i + 1) ≡ place + i + 1 = omega arith in
        rw (get_or-drop place path i 0, get_or-drop place path (i + 1) 0, up) (walk.chain (place + i) (omega (arith, within, length-drop place path)))
