-- From the marks of a whole walk to the rounds that settle nodes.
use Rattle.std.proofs.Common.{◌≡◌, sym, ◌∙◌, ap, subst, refl, arith, ℕ, zero, suc, ◌+◌, ◌<◌, ◌≤◌, Bool, List, [], ◌∷◌, length, map, get_or, ◌⊎◌, inl, inr, Option, None, Some}
use Rattle.std.proofs.lemmas.Bool.{cases_lt}
use Rattle.std.proofs.lemmas.List.{get_or_default, length-map}
use Rattle.std.proofs.lemmas.List.Elements.{recursion_from_All}
use Rattle.graph_walk.specs.declared.marks.Mark.{Mark}
use Rattle.graph_walk.specs.declared.marks.Mark.TheVariants.{New, Open, Done}
use Rattle.graph_walk.specs.Edges.{edges_from, HasEdge}
use Rattle.graph_walk.specs.Rounds.{IsWithin, round_of, AreRounds}
use Rattle.graph_walk.specs.Marks.{mark_at, above, depth_over, IsDone, IsMet, IsWalk, round_at}
use Rattle.graph_walk.proofs.Walking.{depth_bounded_from}
use Rattle.graph_walk.proofs.Deepest.{mark_past, at_least}

module _ (edges : List (List ℕ)) (rings : Bool) (marks : List Mark) (left path : List ℕ) (walk : IsWalk edges rings marks left path) where
  -- a node that is done needs nodes that are done and less deep
  below_it : (v w depth : ℕ) → v < length edges → mark_at marks v ≡ Done depth → HasEdge edges v w → (d : ℕ) × (mark_at marks w ≡ Done d) × (d < depth)
  below_it v w depth lt is (k, inside, at) =
      let done : IsDone marks w = subst (IsDone marks) at (walk.below v depth lt is k w inside) in
      let same : get_or (edges_from edges v) k 0 ≡ w = get_or_default (edges_from edges v) k 0 w inside ∙ at in
      let up : above (mark_at marks (get_or (edges_from edges v) k 0)) ≤ depth_over marks (edges_from edges v) = at_least marks 0 (edges_from edges v) k inside in
      let here : above (mark_at marks (get_or (edges_from edges v) k 0)) ≡ done.0 + 1 = ap (λ u. above (mark_at marks u)) same ∙ ap above done.1 in
      (done.0, done.1, omega (arith, up, here, walk.depths v depth lt is))

  -- a node with a mark is a node
  node_of : (v depth : ℕ) → mark_at marks v ≡ Done depth → v < length edges
  node_of v depth is = by_place (cases_lt v (length edges))
    where
      by_place : (v < length edges) ⊎ (length edges ≤ v) → v < length edges
      by_place (inl lt) = lt
      by_place (inr le) = let e : New ≡ Done depth = sym (mark_past marks v (omega (arith, le, walk.marked))) ∙ is in absurd cc

  within_from : (n v depth : ℕ) → mark_at marks v ≡ Done depth → depth < n → IsWithin edges n v
  within_from zero v depth is lt = absurd (omega (arith, lt))
  within_from (suc n) v depth is lt = (node_of v depth is, λ w edge. let low = below_it v w depth (node_of v depth is) is edge in within_from n w low.0 low.1 (omega (arith, low.2, lt)))

  first_from : (n v depth : ℕ) → mark_at marks v ≡ Done depth → IsWithin edges n v → depth < n
  first_from zero v depth is h = absurd h
  first_from (suc n) v depth is h =
      let bound : depth_over marks (edges_from edges v) ≤ n = depth_bounded_from marks n 0 (edges_from edges v) (omega arith)
      (recursion_from_All (λ w. above (mark_at marks w) ≤ n) (edges_from edges v) (λ k d inside. low (get_or (edges_from edges v) k d) (k, inside, get_or_default (edges_from edges v) k (get_or (edges_from edges v) k d) d inside) (first_from n))) in
      omega (arith, bound, walk.depths v depth h.0 is)
    where
      low : (w : ℕ) → HasEdge edges v w → ((u d : ℕ) → mark_at marks u ≡ Done d → IsWithin edges n u → d < n) → above (mark_at marks w) ≤ n
      low w edge earlier =
          let at = below_it v w depth h.0 is edge in
          omega (arith, ap above at.1, earlier w at.0 at.1 (h.1 w edge))

  done_of : path ≡ [] → ((v : ℕ) → v < length edges → mark_at marks v ≡ New → ⊥) → (n v : ℕ) → IsWithin edges n v → IsDone marks v
  done_of empty met zero v h = absurd h
  done_of empty met (suc n) v h = by_mark (mark_at marks v) refl
    where
      not_open : IsMet edges rings path v → ⊥
      not_open (inl held) = omega (arith, held.1, ap (length {A = ℕ}) empty)
      not_open (inr ring) = ring.1.never (suc n) h

      by_mark : (m : Mark) → mark_at marks v ≡ m → IsDone marks v
      by_mark New is = absurd (met v h.0 is)
      by_mark Open is = absurd (not_open (walk.opened v h.0 is))
      by_mark (Done depth) is = (depth, is)

  round_is : (v : ℕ) → round_of (map round_at marks) v ≡ round_at (mark_at marks v)
  round_is v = get_or-map_any v marks
    where
      get_or-map_any : (v : ℕ) (ms : List Mark) → get_or (map round_at ms) v None ≡ round_at (get_or ms v New)
      get_or-map_any v [] = refl
      get_or-map_any zero (m ∷ ms) = refl
      get_or-map_any (suc v) (m ∷ ms) = get_or-map_any v ms

  depth_of : (m : Mark) (depth : ℕ) → round_at m ≡ Some depth → m ≡ Done depth
  depth_of New depth e = absurd cc
  depth_of Open depth e = absurd cc
  depth_of (Done d) depth e = cc

  -- a whole walk has the rounds of all nodes
  pub rounds_are : path ≡ [] → ((v : ℕ) → v < length edges → mark_at marks v ≡ New → ⊥) → (made : List (Option ℕ)) → made ≡ map round_at marks → AreRounds edges made
  rounds_are empty met made is = rw is (record {
    long = length-map marks round_at ∙ walk.marked;
    sound = λ v depth e. let done = depth_of (mark_at marks v) depth (sym (round_is v) ∙ e) in record { within = within_from (suc depth) v depth done (omega arith); first = λ n h. first_from n v depth done h };
    whole = λ n v h. let done = done_of empty met n v h in (done.0, round_is v ∙ ap round_at done.1);
  })
