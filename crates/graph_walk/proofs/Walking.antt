-- How the walk down a graph goes on.
use Rattle.std.proofs.Common.{◌≡◌, ◌≢◌, sym, ◌∙◌, ap, subst, refl, arith, ℕ, zero, suc, ◌+◌, ◌-◌, ◌<◌, ◌≤◌, max, Bool, true, List, [], ◌∷◌, ◌++◌, length, take, get_or, set, fold, sum_by, ◌⊎◌, inl, inr, All, Contains, Some, slice_get, get_or-set_same, get_or-set_other, length-set}
use Rattle.std.proofs.lemmas.Bool.{cases_eq}
use Rattle.std.proofs.lemmas.List.{get_or_default, length_push, get_or-take, length-take-le, get_or_append_left, get_or_push}
use Rattle.std.proofs.lemmas.List.Elements.{recursion_from_All, All-push, All-take, All-weaker, Contains-push, Contains-append_left}
use Rattle.std.proofs.lemmas.List.Sums.{sum_by-set, sum_by-le}
use Rattle.std.proofs.lemmas.Option.{get_or_from_slice_get}
use Rattle.std.specs.List.{AllByRecursion}
use Rattle.graph_walk.specs.declared.marks.Mark.{Mark}
use Rattle.graph_walk.specs.declared.marks.Mark.TheVariants.{New, Open, Done}
use Rattle.graph_walk.specs.Edges.{edges_from, HasEdge, AreWithin}
use Rattle.graph_walk.specs.Rounds.{IsWithin, IsNever}
use Rattle.graph_walk.specs.Marks.{mark_at, above, depth_over, IsDone, unfinished, IsMet, IsWalk, ClosesAt}

mark_here : (marks : List Mark) (v : ℕ) (m : Mark) → v < length marks → mark_at (set marks v m) v ≡ m
mark_here marks v m lt = get_or-set_same marks v m New lt

mark_other : (marks : List Mark) (v w : ℕ) (m : Mark) → w ≢ v → mark_at (set marks v m) w ≡ mark_at marks w
mark_other marks v w m ne = get_or-set_other marks v w m New ne

-- what is done isn't open or new
done_elsewhere : (marks : List Mark) (v w : ℕ) → (IsDone marks v → ⊥) → IsDone marks w → w ≢ v
done_elsewhere marks v w not_done done same = not_done (subst (IsDone marks) same done)

done_kept : (marks : List Mark) (v w : ℕ) (m : Mark) → (IsDone marks v → ⊥) → IsDone marks w → IsDone (set marks v m) w
done_kept marks v w m not_done done = (done.0, mark_other marks v w m (done_elsewhere marks v w not_done done) ∙ done.1)

open_not_done : (marks : List Mark) (v : ℕ) → mark_at marks v ≡ Open → IsDone marks v → ⊥
open_not_done marks v is done = let e : Open ≡ Done done.0 = sym is ∙ done.1 in cc

new_not_done : (marks : List Mark) (v : ℕ) → mark_at marks v ≡ New → IsDone marks v → ⊥
new_not_done marks v is done = let e : New ≡ Done done.0 = sym is ∙ done.1 in cc

-- depths over nodes that are done stay
depth_kept_from : (marks : List Mark) (v : ℕ) (m : Mark) → (IsDone marks v → ⊥) → (start : ℕ) (ws : List ℕ) → AllByRecursion (IsDone marks) ws
    → fold (λ depth w. max depth (above (mark_at (set marks v m) w))) start ws ≡ fold (λ depth w. max depth (above (mark_at marks w))) start ws
depth_kept_from marks v m not_done start [] all = refl
depth_kept_from marks v m not_done start (w ∷ ws) all =
    let same : mark_at (set marks v m) w ≡ mark_at marks w = mark_other marks v w m (done_elsewhere marks v w not_done all.0) in
    ap (λ a. fold (λ depth w. max depth (above (mark_at (set marks v m) w))) (max start (above a)) ws) same ∙ depth_kept_from marks v m not_done (max start (above (mark_at marks w))) ws all.1

depth_kept : (marks : List Mark) (v : ℕ) (m : Mark) (ws : List ℕ) → (IsDone marks v → ⊥) → All (IsDone marks) ws → depth_over (set marks v m) ws ≡ depth_over marks ws
depth_kept marks v m ws not_done all = depth_kept_from marks v m not_done 0 ws (recursion_from_All (IsDone marks) ws all)

-- a bound on each depth bounds the depth over them
pub depth_bounded_from : (marks : List Mark) (most start : ℕ) (ws : List ℕ) → start ≤ most → AllByRecursion (λ w. above (mark_at marks w) ≤ most) ws
    → fold (λ depth w. max depth (above (mark_at marks w))) start ws ≤ most
depth_bounded_from marks most start [] le all = le
depth_bounded_from marks most start (w ∷ ws) le all = depth_bounded_from marks most (max start (above (mark_at marks w))) ws (omega (arith, all.0, le)) all.1

one_at_most : (m : Mark) → unfinished m ≤ 1
one_at_most New = omega arith
one_at_most Open = omega arith
one_at_most (Done depth) = omega arith

few_unfinished : (marks : List Mark) → sum_by unfinished marks ≤ length marks
few_unfinished marks = omega (arith, sum_by-le unfinished 1 marks (λ k d lt. one_at_most (get_or marks k d)))

-- the sum when one node changes its mark
unfinished_set : (marks : List Mark) (v : ℕ) (m : Mark) → v < length marks → sum_by unfinished (set marks v m) + unfinished (mark_at marks v) ≡ sum_by unfinished marks + unfinished m
unfinished_set marks v m lt = sum_by-set unfinished marks v m New lt

-- the last node of the path is taken off

chain_front : (edges : List (List ℕ)) (path : List ℕ) (n : ℕ) → n ≤ length path → ((i : ℕ) → i + 1 < length path → HasEdge edges (get_or path i 0) (get_or path (i + 1) 0))
    → (i : ℕ) → i + 1 < length (take n path) → HasEdge edges (get_or (take n path) i 0) (get_or (take n path) (i + 1) 0)
chain_front edges path n le chain i lt =
    let long : length (take n path) ≡ n = length-take-le n path le in
    let a : get_or (take n path) i 0 ≡ get_or path i 0 = get_or-take n path i 0 (omega arith) in
    let b : get_or (take n path) (i + 1) 0 ≡ get_or path (i + 1) 0 = get_or-take n path (i + 1) 0 (omega arith) in
    rw (a, b) (chain i (omega arith))

-- a node of the path that isn't the last one is in front of it
in_front : (path : List ℕ) (v w : ℕ) → Contains path w → slice_get path (length path - 1) ≡ Some v → w ≢ v → Contains (take (length path - 1) path) w
in_front path v w held last ne =
    let apart : held.0 ≢ length path - 1 = λ same. ne (sym held.2 ∙ ap (λ n. get_or path n w) same ∙ get_or_from_slice_get path (length path - 1) v w last) in
    let within : held.0 < length path - 1 = omega (arith, apart, held.1) in
    (held.0, omega (arith, length-take-le (length path - 1) path (omega arith), within), get_or-take (length path - 1) path held.0 w within ∙ held.2)

met_in_front : (edges : List (List ℕ)) (rings : Bool) (path : List ℕ) (v w : ℕ) → IsMet edges rings path w → slice_get path (length path - 1) ≡ Some v → w ≢ v → IsMet edges rings (take (length path - 1) path) w
met_in_front edges rings path v w (inl held) last ne = inl (in_front path v w held last ne)
met_in_front edges rings path v w (inr ring) last ne = inr ring

-- nodes that were met stay so when one more stands on the path
met_still : (edges : List (List ℕ)) (rings : Bool) (path : List ℕ) (v w : ℕ) → IsMet edges rings path w → IsMet edges rings (path ++ v ∷ []) w
met_still edges rings path v w (inl held) = inl (Contains-append_left path (v ∷ []) w held)
met_still edges rings path v w (inr ring) = inr ring

has_last : (path : List ℕ) (v : ℕ) → slice_get path (length path - 1) ≡ Some v → 0 < length path
has_last [] v last = absurd cc
has_last (x ∷ xs) v last = omega arith

module _ (edges : List (List ℕ)) (rings : Bool) (marks : List Mark) (left path : List ℕ) (within : AreWithin edges) (walk : IsWalk edges rings marks left path) where
  -- a dependency is a node
  dependency_within : (v k d : ℕ) → v < length edges → k < length (edges_from edges v) → get_or (edges_from edges v) k d < length edges
  dependency_within v k d lt inside = within v [] lt k d inside

  above_le : (w : ℕ) → w < length edges → IsDone marks w → above (mark_at marks w) ≤ length edges - sum_by unfinished marks
  above_le w lt done = rw done.1 (omega (arith, walk.small w done.0 lt done.1))

  pub last_within : (v : ℕ) → slice_get path (length path - 1) ≡ Some v → v < length edges
  last_within v last =
      let lt : length path - 1 < length path = omega (arith, has_last path v last) in
      subst (λ n. n < length edges) (get_or_from_slice_get path (length path - 1) v 0 last) (walk.on_path (length path - 1) 0 lt)

  -- the last node isn't open: it is taken off the path
  pub dropped : (v : ℕ) → slice_get path (length path - 1) ≡ Some v → (mark_at marks v ≡ Open → ⊥) → IsWalk edges rings marks left (take (length path - 1) path)
  dropped v last not_open = record {
    marked = walk.marked;
    counted = walk.counted;
    on_path = All-take (λ v. v < length edges) (length path - 1) path walk.on_path;
    chain = chain_front edges path (length path - 1) (omega arith) walk.chain;
    opened = λ w lt is. met_in_front edges rings path v w (walk.opened w lt is) last (λ same. not_open (ap (mark_at marks) (sym same) ∙ is));
    fits = walk.fits;
    passed = walk.passed;
    below = walk.below;
    depths = walk.depths;
    small = walk.small;
  }

  -- all dependencies of the last node, which is open, are done: so is the node
  pub finished : (v : ℕ) → slice_get path (length path - 1) ≡ Some v → mark_at marks v ≡ Open → get_or left v 0 ≡ 0
      → IsWalk edges rings (set marks v (Done (depth_over marks (edges_from edges v)))) left (take (length path - 1) path)
  finished v last is_open none_left =
      let depth = depth_over marks (edges_from edges v) in
      let new = set marks v (Done depth) in
      let lt : v < length edges = last_within v last in
      let lt_marks : v < length marks = omega (arith, lt, walk.marked) in
      let not_done = open_not_done marks v is_open in
      let all_done : All (IsDone marks) (edges_from edges v) = λ k d within. subst (IsDone marks) (get_or_default (edges_from edges v) k 0 d within) (walk.passed v k lt (omega (arith, none_left)) within) in
      let total : sum_by unfinished new + 1 ≡ sum_by unfinished marks = omega (arith, unfinished_set marks v (Done depth) lt_marks, ap unfinished is_open) in
      let bound : depth ≤ length edges - sum_by unfinished marks = depth_bounded_from marks (length edges - sum_by unfinished marks) 0 (edges_from edges v) (omega arith)
      (recursion_from_All (λ w. above (mark_at marks w) ≤ length edges - sum_by unfinished marks) (edges_from edges v) (λ k d inside. above_le (get_or (edges_from edges v) k d) (dependency_within v k d lt inside) (all_done k d inside))) in
      let few : sum_by unfinished marks ≤ length marks = few_unfinished marks in
      record {
        marked = length-set marks v (Done depth) ∙ walk.marked;
        counted = walk.counted;
        on_path = All-take (λ v. v < length edges) (length path - 1) path walk.on_path;
        chain = chain_front edges path (length path - 1) (omega arith) walk.chain;
        opened = λ w within is. opened_still v w depth lt_marks last is within (cases_eq w v);
        fits = walk.fits;
        passed = λ w j within after inside. done_kept marks v (get_or (edges_from edges w) j 0) (Done depth) not_done (walk.passed w j within after inside);
        below = λ w d within is. All-weaker (IsDone marks) (IsDone new) (λ u. done_kept marks v u (Done depth) not_done) (edges_from edges w) (below_now v w d depth all_done is within (cases_eq w v));
        depths = λ w d within is. depth_now v w d lt_marks is within (cases_eq w v) ∙ sym (depth_kept marks v (Done depth) (edges_from edges w) not_done (below_now v w d depth all_done is within (cases_eq w v)));
        small = λ w d within is. small_now v w d depth lt_marks is within (omega (arith, walk.marked, total, bound, few)) (omega (arith, total)) (cases_eq w v);
      }
    where
      opened_still : (v w depth : ℕ) → v < length marks → slice_get path (length path - 1) ≡ Some v → mark_at (set marks v (Done depth)) w ≡ Open → w < length edges → (w ≡ v) ⊎ (w ≡ v → ⊥) → IsMet edges rings (take (length path - 1) path) w
      opened_still v w depth lt last is within (inl same) = let e : Open ≡ Done depth = sym is ∙ ap (mark_at (set marks v (Done depth))) same ∙ mark_here marks v (Done depth) lt in absurd cc
      opened_still v w depth lt last is within (inr other) = met_in_front edges rings path v w (walk.opened w within (sym (mark_other marks v w (Done depth) other) ∙ is)) last other

      below_now : (v w d depth : ℕ) → All (IsDone marks) (edges_from edges v) → mark_at (set marks v (Done depth)) w ≡ Done d → w < length edges → (w ≡ v) ⊎ (w ≡ v → ⊥) → All (IsDone marks) (edges_from edges w)
      below_now v w d depth all is within (inl same) = subst (λ u. All (IsDone marks) (edges_from edges u)) (sym same) all
      below_now v w d depth all is within (inr other) = walk.below w d within (sym (mark_other marks v w (Done depth) other) ∙ is)

      depth_now : (v w d : ℕ) → v < length marks → mark_at (set marks v (Done (depth_over marks (edges_from edges v)))) w ≡ Done d → w < length edges → (w ≡ v) ⊎ (w ≡ v → ⊥) → d ≡ depth_over marks (edges_from edges w)
      depth_now v w d lt is within (inl same) =
          let e : Done d ≡ Done (depth_over marks (edges_from edges v)) = sym is ∙ ap (mark_at (set marks v (Done (depth_over marks (edges_from edges v))))) same ∙ mark_here marks v (Done (depth_over marks (edges_from edges v))) lt in
          let f : d ≡ depth_over marks (edges_from edges v) = cc in
          f ∙ ap (λ u. depth_over marks (edges_from edges u)) (sym same)
      depth_now v w d lt is within (inr other) = walk.depths w d within (sym (mark_other marks v w (Done (depth_over marks (edges_from edges v))) other) ∙ is)

      small_now : (v w d depth : ℕ) → v < length marks → mark_at (set marks v (Done depth)) w ≡ Done d → w < length edges → depth + sum_by unfinished (set marks v (Done depth)) < length edges
          → sum_by unfinished (set marks v (Done depth)) ≤ sum_by unfinished marks → (w ≡ v) ⊎ (w ≡ v → ⊥) → d + sum_by unfinished (set marks v (Done depth)) < length edges
      small_now v w d depth lt is within here less (inl same) =
          let e : Done d ≡ Done depth = sym is ∙ ap (mark_at (set marks v (Done depth))) same ∙ mark_here marks v (Done depth) lt in
          let f : d ≡ depth = cc in
          rw f here
      small_now v w d depth lt is within here less (inr other) = omega (arith, less, walk.small w d within (sym (mark_other marks v w (Done depth) other) ∙ is))

  -- the dependency that was looked at is done
  pub advanced : (v l : ℕ) → v < length edges → get_or left v 0 ≡ suc l → IsDone marks (get_or (edges_from edges v) l 0) → IsWalk edges rings marks (set left v l) path
  advanced v l lt is done = record {
    marked = walk.marked;
    counted = length-set left v l ∙ walk.counted;
    on_path = walk.on_path;
    chain = walk.chain;
    opened = walk.opened;
    fits = λ w within. fits_now w within (cases_eq w v);
    passed = λ w j within after inside. passed_now w j within after inside (cases_eq w v);
    below = walk.below;
    depths = walk.depths;
    small = walk.small;
  }
    where
      fits_now : (w : ℕ) → w < length edges → (w ≡ v) ⊎ (w ≡ v → ⊥) → get_or (set left v l) w 0 ≤ length (edges_from edges w)
      fits_now w within (inl same) =
          let here : get_or (set left v l) v 0 ≡ l = get_or-set_same left v l 0 (omega (arith, walk.counted, lt)) in
          rw (same, here) (omega (arith, walk.fits v lt, is))
      fits_now w within (inr other) = rw (get_or-set_other left v w l 0 other) (walk.fits w within)

      passed_now : (w j : ℕ) → w < length edges → get_or (set left v l) w 0 ≤ j → j < length (edges_from edges w) → (w ≡ v) ⊎ (w ≡ v → ⊥) → IsDone marks (get_or (edges_from edges w) j 0)
      passed_now w j within after inside (inl same) =
          let here : get_or (set left v l) v 0 ≡ l = get_or-set_same left v l 0 (omega (arith, walk.counted, lt)) in
          let from : l ≤ j = omega (arith, ap (λ u. get_or (set left v l) u 0) same, here, after) in
          let inside_here : j < length (edges_from edges v) = subst (λ u. j < length (edges_from edges u)) same inside in
          subst (λ u. IsDone marks (get_or (edges_from edges u) j 0)) (sym same) (at_or_behind j from inside_here (cases_eq j l))
        where
          at_or_behind : (j : ℕ) → l ≤ j → j < length (edges_from edges v) → (j ≡ l) ⊎ (j ≡ l → ⊥) → IsDone marks (get_or (edges_from edges v) j 0)
          at_or_behind j from inside (inl here) = subst (λ k. IsDone marks (get_or (edges_from edges v) k 0)) (sym here) done
          at_or_behind j from inside (inr behind) = walk.passed v j lt (omega (arith, is, from, behind)) inside
      passed_now w j within after inside (inr other) = walk.passed w j within (rw (get_or-set_other left v w l 0 other) at after) inside

module _ (edges : List (List ℕ)) (rings : Bool) (marks : List Mark) (left path : List ℕ) (walk : IsWalk edges rings marks left path) where
  -- a node that wasn't met is put on the path, which needs it
  pub put_on : (v : ℕ) → v < length edges → mark_at marks v ≡ New → (0 < length path → HasEdge edges (get_or path (length path - 1) 0) v) → IsWalk edges rings (set marks v Open) left (path ++ v ∷ [])
  put_on v lt is_new edge =
      let not_done = new_not_done marks v is_new in
      let lt_marks : v < length marks = omega (arith, lt, walk.marked) in
      let total : sum_by unfinished (set marks v Open) ≡ sum_by unfinished marks = omega (arith, unfinished_set marks v Open lt_marks, ap unfinished is_new) in
      record {
        marked = length-set marks v Open ∙ walk.marked;
        counted = walk.counted;
        on_path = All-push (λ v. v < length edges) path v walk.on_path lt;
        chain = λ i inside. chain_now v edge i inside (cases_eq (i + 1) (length path));
        opened = λ w within is. opened_now v w lt_marks is within (cases_eq w v);
        fits = walk.fits;
        passed = λ w j within after inside. done_kept marks v (get_or (edges_from edges w) j 0) Open not_done (walk.passed w j within after inside);
        below = λ w d within is. All-weaker (IsDone marks) (IsDone (set marks v Open)) (λ u. done_kept marks v u Open not_done) (edges_from edges w) (walk.below w d within (done_before v w d lt_marks is (cases_eq w v)));
        depths = λ w d within is. let before = done_before v w d lt_marks is (cases_eq w v) in walk.depths w d within before ∙ sym (depth_kept marks v Open (edges_from edges w) not_done (walk.below w d within before));
        small = λ w d within is. omega (arith, total, walk.small w d within (done_before v w d lt_marks is (cases_eq w v)));
      }
    where
      chain_now : (v : ℕ) → (0 < length path → HasEdge edges (get_or path (length path - 1) 0) v) → (i : ℕ) → i + 1 < length (path ++ v ∷ []) → (i + 1 ≡ length path) ⊎ (i + 1 ≡ length path → ⊥)
          → HasEdge edges (get_or (path ++ v ∷ []) i 0) (get_or (path ++ v ∷ []) (i + 1) 0)
      chain_now v edge i inside (inl here) =
          let last : i ≡ length path - 1 = omega (arith, here) in
          let a : get_or (path ++ v ∷ []) i 0 ≡ get_or path i 0 = get_or_append_left path (v ∷ []) 0 i (omega (arith, here)) in
          let b : get_or (path ++ v ∷ []) (i + 1) 0 ≡ v = get_or_push path v 0 (i + 1) (sym here) in
          rw (a, b, last) (edge (omega (arith, here)))
      chain_now v edge i inside (inr front) =
          let more : i + 1 < length path = omega (arith, inside, front, length_push path v) in
          let a : get_or (path ++ v ∷ []) i 0 ≡ get_or path i 0 = get_or_append_left path (v ∷ []) 0 i (omega (arith, more)) in
          let b : get_or (path ++ v ∷ []) (i + 1) 0 ≡ get_or path (i + 1) 0 = get_or_append_left path (v ∷ []) 0 (i + 1) more in
          rw (a, b) (walk.chain i more)

      opened_now : (v w : ℕ) → v < length marks → mark_at (set marks v Open) w ≡ Open → w < length edges → (w ≡ v) ⊎ (w ≡ v → ⊥) → IsMet edges rings (path ++ v ∷ []) w
      opened_now v w lt is within (inl same) = inl (subst (λ u. Contains (path ++ v ∷ []) u) (sym same) (Contains-push path v))
      opened_now v w lt is within (inr other) = met_still edges rings path v w (walk.opened w within (sym (mark_other marks v w Open other) ∙ is))

      done_before : (v w d : ℕ) → v < length marks → mark_at (set marks v Open) w ≡ Done d → (w ≡ v) ⊎ (w ≡ v → ⊥) → mark_at marks w ≡ Done d
      done_before v w d lt is (inl same) = let e : Open ≡ Done d = sym (mark_here marks v Open lt) ∙ sym (ap (mark_at (set marks v Open)) same) ∙ is in absurd cc
      done_before v w d lt is (inr other) = sym (mark_other marks v w Open other) ∙ is

  -- a node is put on an empty path
  pub put_first : (v : ℕ) → v < length edges → mark_at marks v ≡ New → path ≡ [] → IsWalk edges rings (set marks v Open) left (path ++ v ∷ [])
  put_first v lt is_new empty = put_on v lt is_new (λ long. absurd (omega (arith, long, ap (length {A = ℕ}) empty)))

module _ (edges : List (List ℕ)) (rings : Bool) (marks : List Mark) (left path : List ℕ) (walk : IsWalk edges rings marks left path) where
  -- along the path the rounds fall
  down_path : (k i n : ℕ) → i + k + 1 ≡ length path → IsWithin edges n (get_or path i 0) → (m : ℕ) × (m ≤ n) × IsWithin edges m (get_or path (length path - 1) 0)
  down_path zero i n e h = let here : i ≡ length path - 1 = omega (arith, e) in (n, omega arith, subst (λ j. IsWithin edges n (get_or path j 0)) here h)
  down_path (suc k) i zero e h = absurd h
  down_path (suc k) i (suc n) e h =
      let rest = down_path k (i + 1) n (omega (arith, e)) (h.1 (get_or path (i + 1) 0) (walk.chain i (omega (arith, e)))) in
      (rest.0, omega (arith, rest.1), rest.2)

  -- the last node needs one of the path: it is never settled
  ring_until : (v w : ℕ) → slice_get path (length path - 1) ≡ Some v → HasEdge edges v w → Contains path w → (most n : ℕ) → n ≤ most → IsWithin edges n v → ⊥
  ring_until v w last edge held most zero le h = absurd h
  ring_until v w last edge held zero (suc n) le h = absurd (omega (arith, le))
  ring_until v w last edge held (suc most) (suc n) le h =
      let at : w ≡ get_or path held.0 0 = sym held.2 ∙ get_or_default path held.0 w 0 held.1 in
      let start : IsWithin edges n (get_or path held.0 0) = subst (IsWithin edges n) at (h.1 w edge) in
      let low = down_path (length path - 1 - held.0) held.0 n (omega (arith, held.1)) start in
      ring_until v w last edge held most low.0 (omega (arith, le, low.1)) (subst (IsWithin edges low.0) (get_or_from_slice_get path (length path - 1) v 0 last) low.2)

  above_until : (v w : ℕ) → HasEdge edges v w → IsNever edges w → (n : ℕ) → IsWithin edges n v → ⊥
  above_until v w edge never zero h = absurd h
  above_until v w edge never (suc n) h = never.never n (h.1 w edge)

  -- ... and one that needs a node which is never settled isn't either
  never_above : (v w : ℕ) → HasEdge edges v w → IsNever edges w → IsNever edges v
  never_above v w edge never = record { never = above_until v w edge never }

  last_never : (v w : ℕ) → slice_get path (length path - 1) ≡ Some v → HasEdge edges v w → IsMet edges rings path w → IsNever edges v
  last_never v w last edge (inl held) = record { never = λ n h. ring_until v w last edge held n n (omega arith) h }
  last_never v w last edge (inr ring) = never_above v w edge ring.1

  path_never : IsNever edges (get_or path (length path - 1) 0) → (k i : ℕ) → i + k + 1 ≡ length path → IsNever edges (get_or path i 0)
  path_never never zero i e = let here : i ≡ length path - 1 = omega (arith, e) in subst (λ j. IsNever edges (get_or path j 0)) (sym here) never
  path_never never (suc k) i e = never_above (get_or path i 0) (get_or path (i + 1) 0) (walk.chain i (omega (arith, e))) (path_never never k (i + 1) (omega (arith, e)))

  -- a path whose last node needs one that is open is given up
  pub given_up : (w : ℕ) → ClosesAt edges rings path w → IsWalk edges true marks left []
  given_up w closes = record {
    marked = walk.marked;
    counted = walk.counted;
    on_path = λ k d lt. absurd (omega (arith, lt));
    chain = λ i lt. absurd (omega (arith, lt));
    opened = λ v lt is. inr (refl, never_of v (walk.opened v lt is));
    fits = walk.fits;
    passed = walk.passed;
    below = walk.below;
    depths = walk.depths;
    small = walk.small;
  }
    where
      last_is : get_or path (length path - 1) 0 ≡ closes.edge.0
      last_is = get_or_from_slice_get path (length path - 1) closes.edge.0 0 closes.edge.1

      never : IsNever edges (get_or path (length path - 1) 0)
      never = subst (IsNever edges) (sym last_is) (last_never closes.edge.0 w closes.edge.1 closes.edge.2 closes.met)

      never_of : (v : ℕ) → IsMet edges rings path v → IsNever edges v
      never_of v (inl held) = subst (IsNever edges) (sym (get_or_default path held.0 v 0 held.1) ∙ held.2) (path_never never (length path - 1 - held.0) held.0 (omega (arith, held.1)))
      never_of v (inr ring) = ring.1

-- what is read

pub read_zero : (xs : List ℕ) (i x : ℕ) → i < length xs → x ≡ get_or xs i x → get_or xs i 0 ≡ x
read_zero xs i x lt is = sym (is ∙ get_or_default xs i x 0 lt)

edges_read : (edges : List (List ℕ)) (v : ℕ) (ws : List ℕ) → v < length edges → ws ≡ get_or edges v ws → ws ≡ edges_from edges v
edges_read edges v ws lt is = is ∙ get_or_default edges v ws [] lt

mark_read : (marks : List Mark) (w : ℕ) (m : Mark) → w < length marks → m ≡ get_or marks w m → mark_at marks w ≡ m
mark_read marks w m lt is = sym (is ∙ get_or_default marks w m New lt)

-- the dependency that comes next, read by the code: v is the last node, l how many of its dependencies are left, ws all of them

pub record IsRead (edges : List (List ℕ)) (rings : Bool) (marks : List Mark) (left path : List ℕ) (v l : ℕ) (ws : List ℕ) : Type 0 where
  pub within : AreWithin edges
  pub walk : IsWalk edges rings marks left path
  pub last : slice_get path (length path - 1) ≡ Some v
  pub count : l ≡ get_or left v l
  pub some : l ≡ 0 → ⊥
  pub list : ws ≡ get_or edges v ws

pub is_read : {edges : List (List ℕ)} {rings : Bool} {marks : List Mark} {left path : List ℕ} {v l : ℕ} {us ws : List ℕ} → AreWithin edges → IsWalk edges rings marks left path → slice_get path (length path - 1) ≡ Some v
    → l ≡ get_or left v l → (l ≡ 0 → ⊥) → us ≡ ws → ws ≡ get_or edges v ws → IsRead edges rings marks left path v l us
is_read within walk last count some same list = record { within = within; walk = walk; last = last; count = count; some = some; list = rw same list }

module _ {edges : List (List ℕ)} {rings : Bool} {marks : List Mark} {left path : List ℕ} {v l : ℕ} {ws : List ℕ} (read : IsRead edges rings marks left path v l ws) where
  v_within : v < length edges
  v_within = last_within edges rings marks left path read.within read.walk v read.last

  left_is : get_or left v 0 ≡ l
  left_is = read_zero left v l (omega (arith, v_within, read.walk.counted)) read.count

  list_is : ws ≡ edges_from edges v
  list_is = edges_read edges v ws v_within read.list

  pub next_bound : l - 1 < length ws
  next_bound = omega (arith, left_is, ap (length {A = ℕ}) list_is, read.walk.fits v v_within, read.some)

  pub next_within : get_or ws (l - 1) 0 < length edges
  next_within =
      let bound : l - 1 < length (edges_from edges v) = omega (arith, ap (length {A = ℕ}) list_is, next_bound) in
      rw list_is (dependency_within edges rings marks left path read.within read.walk v (l - 1) 0 v_within bound)

  next_edge : HasEdge edges v (get_or ws (l - 1) 0)
  next_edge = subst (λ (us : List ℕ). Contains us (get_or ws (l - 1) 0)) list_is (l - 1, next_bound, get_or_default ws (l - 1) (get_or ws (l - 1) 0) 0 next_bound)

  next_mark : (m : Mark) → m ≡ get_or marks (get_or ws (l - 1) 0) m → mark_at marks (get_or ws (l - 1) 0) ≡ m
  next_mark m is = mark_read marks (get_or ws (l - 1) 0) m (omega (arith, next_within, read.walk.marked)) is

  pub next_closes : (m : Mark) → m ≡ get_or marks (get_or ws (l - 1) 0) m → m ≡ Open → ClosesAt edges rings path (get_or ws (l - 1) 0)
  next_closes m is is_open = record { edge = (v, read.last, next_edge); met = read.walk.opened (get_or ws (l - 1) 0) next_within (next_mark m is ∙ is_open) }

  pub next_done : (m : Mark) (d : ℕ) → m ≡ get_or marks (get_or ws (l - 1) 0) m → m ≡ Done d → IsWalk edges rings marks (set left v (l - 1)) path
  next_done m d is is_done =
      let one : get_or left v 0 ≡ suc (l - 1) = left_is ∙ omega (arith, read.some) in
      let done : IsDone marks (get_or ws (l - 1) 0) = (d, next_mark m is ∙ is_done) in
      advanced edges rings marks left path read.within read.walk v (l - 1) v_within one (subst (λ (us : List ℕ). IsDone marks (get_or us (l - 1) 0)) list_is done)

  pub next_new : (m : Mark) → m ≡ get_or marks (get_or ws (l - 1) 0) m → m ≡ New → IsWalk edges rings (set marks (get_or ws (l - 1) 0) Open) left (path ++ get_or ws (l - 1) 0 ∷ [])
  next_new m is is_new = put_on edges rings marks left path read.walk (get_or ws (l - 1) 0) next_within (next_mark m is ∙ is_new)
      (λ long. subst (λ u. HasEdge edges u (get_or ws (l - 1) 0)) (sym (get_or_from_slice_get path (length path - 1) v 0 read.last)) next_edge)
