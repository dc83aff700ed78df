-- Records that are tried, one after another.
use Rattle.std.proofs.Common.{◌≡◌, ◌∙◌, sym, ap, refl, subst, arith, ℕ, zero, suc, ◌+◌, ◌<◌, ◌≤◌, Bool, true, List, [], ◌∷◌, ◌++◌, length, get_or, set, take, ◌⊎◌, inl, inr}
use Rattle.store_keep.specs.Keep.{AreClosed, IsClosure}
use Rattle.store_keep.specs.Tries.{AreKept, AreTried, IsTried, KeptAreClosed, KeptAreFew, marked_in}
use Rattle.store_keep.proofs.Closures.{closed_of}

tried_more : (edges : List (List ℕ)) (limit : ℕ) (first mid after : List Bool) (order : List ℕ) (k : ℕ) → AreTried edges limit first order mid → IsTried edges limit mid k after → AreTried edges limit first (order ++ k ∷ []) after
tried_more edges limit first mid after [] k so_far one = (after, subst (λ (m : List Bool). IsTried edges limit m k after) so_far one, refl)
tried_more edges limit first mid after (x ∷ order) k so_far one = (so_far.0, so_far.1, tried_more edges limit so_far.0 mid after order k so_far.2 one)

take_push : (xs : List ℕ) (i d : ℕ) → i < length xs → take (i + 1) xs ≡ take i xs ++ get_or xs i d ∷ []
take_push [] i d lt = absurd (omega (arith, lt))
take_push (x ∷ xs) zero d lt = refl
take_push (x ∷ xs) (suc i) d lt =
    let e : suc i + 1 ≡ suc (i + 1) = omega arith in
    ap (λ (n : ℕ). take n (x ∷ xs)) e ∙ ap (λ (l : List ℕ). x ∷ l) (take_push xs i d (omega (arith, lt)))

pub kept_more : (edges : List (List ℕ)) (roots : List Bool) (order : List ℕ) (limit i k d : ℕ) (before after : List Bool) → i < length order → k ≡ get_or order i d → AreKept edges roots (take i order) limit before → IsTried edges limit before k after → AreKept edges roots (take (i + 1) order) limit after
kept_more edges roots order limit i k d before after lt is kept one =
    let more = tried_more edges limit kept.first before after (take i order) (get_or order i d) kept.tried (subst (λ (n : ℕ). IsTried edges limit before n after) is one) in
    record {
      first = kept.first;
      closure = kept.closure;
      tried = subst (λ (o : List ℕ). AreTried edges limit kept.first o after) (sym (take_push order i d lt)) more;
    }

-- ---- laws

closed_try : (edges : List (List ℕ)) (limit : ℕ) (before after : List Bool) (k : ℕ) → AreClosed edges before → IsTried edges limit before k after → AreClosed edges after
closed_try edges limit before after k closed (inl same) = subst (AreClosed edges) (sym same.1) closed
closed_try edges limit before after k closed (inr (inl same)) = subst (AreClosed edges) (sym same.1) closed
closed_try edges limit before after k closed (inr (inr with)) = elim with.2 [
  | inl kept ↦ subst (AreClosed edges) (sym kept.1) (closed_of edges (set before k true) with.0 with.1)
  | inr passed ↦ subst (AreClosed edges) (sym passed.1) closed
]

closed_tries : (edges : List (List ℕ)) (limit : ℕ) (before after : List Bool) (order : List ℕ) → AreClosed edges before → AreTried edges limit before order after → AreClosed edges after
closed_tries edges limit before after [] closed t = subst (AreClosed edges) (sym t) closed
closed_tries edges limit before after (k ∷ order) closed t = closed_tries edges limit t.0 after order (closed_try edges limit before t.0 k closed t.1) t.2

pub kept_are_closed : KeptAreClosed
kept_are_closed edges roots marks order limit kept = closed_tries edges limit kept.first marks order (closed_of edges roots kept.first kept.closure) kept.tried

abbrev Few : List (List ℕ) → List Bool → ℕ → List Bool → Type 0
Few edges roots limit marks = (marked_in marks ≤ limit) ⊎ IsClosure edges roots marks

few_try : (edges : List (List ℕ)) (roots : List Bool) (limit : ℕ) (before after : List Bool) (k : ℕ) → Few edges roots limit before → IsTried edges limit before k after → Few edges roots limit after
few_try edges roots limit before after k few (inl same) = subst (Few edges roots limit) (sym same.1) few
few_try edges roots limit before after k few (inr (inl same)) = subst (Few edges roots limit) (sym same.1) few
few_try edges roots limit before after k few (inr (inr with)) = elim with.2 [
  | inl kept ↦ subst (Few edges roots limit) (sym kept.1) (inl kept.0)
  | inr passed ↦ subst (Few edges roots limit) (sym passed.1) few
]

few_tries : (edges : List (List ℕ)) (roots : List Bool) (limit : ℕ) (before after : List Bool) (order : List ℕ) → Few edges roots limit before → AreTried edges limit before order after → Few edges roots limit after
few_tries edges roots limit before after [] few t = subst (Few edges roots limit) (sym t) few
few_tries edges roots limit before after (k ∷ order) few t = few_tries edges roots limit t.0 after order (few_try edges roots limit before t.0 k few t.1) t.2

pub kept_are_few : KeptAreFew
kept_are_few edges roots marks order limit kept = few_tries edges roots limit kept.first marks order (inr kept.closure) kept.tried
