-- For any roots there is one list of marks of what they lead to.
use Rattle.std.proofs.Common.{◌≡◌, ◌∙◌, sym, refl, subst, arith, ℕ, zero, suc, ◌+◌, ◌<◌, Bool, true, false, cond, List, [], ◌∷◌, length, get_or, set, ◌⊎◌, inl, inr}
use Rattle.std.specs.Prelude.{All, Contains}
use Rattle.std.proofs.lemmas.List.{get_or_default, get_or-set_same, length-set}
use Rattle.std.proofs.lemmas.List.Elements.{All-head, All-tail, All-weaker}
use Rattle.store_keep.specs.Keep.{ClosureIsClosed, ClosureIsOne, IsClosure, IsMarked, NameEarlier, further, named_by}
use Rattle.store_keep.specs.Passes.{IsMarkedWith, IsPassed}
use Rattle.store_keep.proofs.Counting.{same_marks}
use Rattle.store_keep.proofs.Passing.{passed_end, passed_marked, passed_start, passed_unmarked, set_marked, set_only}

pub closed_of : ClosureIsClosed
closed_of edges roots marks c v w m n = let at = c.only v m in c.whole at.0 w at.1 (further at.0 v w at.2 n)

-- the marks of these places besides
abbrev pub marked_at : List Bool → List ℕ → List Bool
marked_at marks [] = marks
marked_at marks (p ∷ places) = marked_at (set marks p true) places

pub marked_places : (old : List Bool) (places : List ℕ) → All (λ v. v < length old) places → IsMarkedWith old places (marked_at old places)
marked_places old [] all = record {
  long = refl;
  kept = λ v m. m;
  added = λ v c. absurd (let lt = c.1 in omega (arith, lt));
  only = λ v m. inl m;
}
marked_places old (p ∷ places) all = with_first (marked_places (set old p true) places (All-weaker (λ v. v < length old) (λ v. v < length (set old p true)) (λ v lt. omega (arith, lt, length-set old p true)) places (All-tail (λ v. v < length old) p places all)))
  where
    lt : p < length old
    lt = All-head (λ v. v < length old) p places all

    with_first : IsMarkedWith (set old p true) places (marked_at old (p ∷ places)) → IsMarkedWith old (p ∷ places) (marked_at old (p ∷ places))
    with_first w = record {
      long = w.long ∙ length-set old p true;
      kept = λ v m. w.kept v (set_marked old p v lt m);
      added = added;
      only = only;
    }
      where
        added : (v : ℕ) → Contains (p ∷ places) v → IsMarked (marked_at old (p ∷ places)) v
        added v (zero, inside, is) = w.kept v (subst (λ (x : ℕ). get_or (set old p true) x false ≡ true) is (get_or-set_same old p true false lt))
        added v (suc k, inside, is) = w.added v (k, omega (arith, inside), is)

        only : (v : ℕ) → IsMarked (marked_at old (p ∷ places)) v → IsMarked old v ⊎ Contains (p ∷ places) v
        only v m = elim (w.only v m) [
          | inl was ↦ elim (set_only old p v was) [
            | inl o ↦ inl o
            | inr same ↦ inr (zero, omega arith, sym same)
          ]
          | inr c ↦ inr (suc c.0, (let inside = c.1 in omega (arith, inside)), c.2)
        ]

-- what the first k lead to besides
abbrev pub closed_marks : List (List ℕ) → ℕ → List Bool → List Bool
closed_marks edges zero marks = marks
closed_marks edges (suc k) marks = closed_marks edges k (cond (get_or marks k false) (marked_at marks (named_by edges k)) marks)

pub closed_from : (edges : List (List ℕ)) (roots marks : List Bool) (k : ℕ) → NameEarlier edges → length roots ≡ length edges → k < length edges + 1 → IsPassed edges roots marks k → IsClosure edges roots (closed_marks edges k marks)
closed_from edges roots marks zero earlier long lt p = passed_end edges roots marks zero (omega arith) p
closed_from edges roots marks (suc k) earlier long lt p = by (λ m q. closed_from edges roots m k earlier long (omega (arith, lt)) q) (get_or marks k false) refl
  where
    one : suc k ≡ k + 1
    one = omega arith

    within : All (λ v. v < length marks) (named_by edges k)
    within j d inside =
        let c : Contains (named_by edges k) (get_or (named_by edges k) j d) = (j, inside, get_or_default (named_by edges k) j (get_or (named_by edges k) j d) d inside) in
        let less = earlier k (get_or (named_by edges k) j d) c in
        omega (arith, less, lt, long, p.long)

    by : ((m : List Bool) → IsPassed edges roots m k → IsClosure edges roots (closed_marks edges k m)) → (b : Bool) → get_or marks k false ≡ b
        → IsClosure edges roots (closed_marks edges k (cond b (marked_at marks (named_by edges k)) marks))
    by rest true is = rest (marked_at marks (named_by edges k))
        (passed_marked edges roots marks (marked_at marks (named_by edges k)) k earlier (subst (IsPassed edges roots marks) one p) is (marked_places marks (named_by edges k) within))
    by rest false is = rest marks (passed_unmarked edges roots marks k is (subst (IsPassed edges roots marks) one p))

pub closure_of : (edges : List (List ℕ)) (roots : List Bool) → NameEarlier edges → length roots ≡ length edges → IsClosure edges roots (closed_marks edges (length edges) roots)
closure_of edges roots earlier long = closed_from edges roots roots (length edges) earlier long (omega arith) (passed_start edges roots)

pub closure_is_one : ClosureIsOne
closure_is_one edges roots earlier long =
    let c = closure_of edges roots earlier long in (
      closed_marks edges (length edges) roots,
      c,
      λ others o. same_marks others (closed_marks edges (length edges) roots) (o.long ∙ sym c.long)
          (λ v m. let at = o.only v m in c.whole at.0 v at.1 at.2) (λ v m. let at = c.only v m in o.whole at.0 v at.1 at.2),
    )
