-- One tree laid over another.
use Rattle.std.proofs.Common.{◌≡◌, ◌<◌, ◌≤◌, ◌+◌, ◌-◌, ◌∙◌, ◌⊎◌, inl, inr, sym, ap, subst, refl, ℕ, zero, suc, List, [], ◌∷◌, ◌++◌, length, drop, take, All, AllPairs, arith, get_or, Bool, true, false, cond, Option, Some, None, length-drop}
use Rattle.std.specs.Prelude.{IsSome, Any, Contains, IsPermutation, MatchBool, not}
use Rattle.std.specs.List.{items_where_true}
use Rattle.std.specs.List.Retain.{IsFiltered, ReturnsInTurn}
use Rattle.std.proofs.lemmas.Bool.{cases_lt}
use Rattle.std.proofs.lemmas.List.{get_or_default, take_rest, get_or-drop, take-append-drop, drop_more}
use Rattle.std.proofs.lemmas.List.Elements.{All-append, All-cons, All-nil, All-head, All-tail, Contains-append_left, Contains-append_right, Contains-append_cases}
use Rattle.std.proofs.lemmas.List.Kept.{AllPairs-cons}
use Rattle.std.specs.Str.{bytes_eq}
use Rattle.std.proofs.lemmas.List.Sorted.{All-permutation, Contains-permutation, IsPermutation-sym, sum_by-IsPermutation}
use Rattle.tree_model.specs.declared.entry.Entry.{Entry}
use Rattle.tree_model.specs.Path.{IsClean, IsBelow, IsAtOrBelow, IsBefore, IsUpTo}
use Rattle.tree_model.specs.Tree.{IsTree, IsSortedByPath, IsStart, entry_at}
use Rattle.tree_model.specs.Refusal.{StandsTwice}
use Rattle.tree_model.specs.Overlay.{Meets, IsFree, IsMet, IsOverlay}
use Rattle.tree_model.proofs.OrderLemmas.{before_itself, before_below, precedes_apart, up_to_from_before, before_trans}
use Rattle.tree_model.proofs.TreeLemmas.{at_place, place_held, ascending_from_tree, any_permuted, places_from_twice, twice_from_places}
use Rattle.tree_model.proofs.EditLemmas.{all_pairs_head, all_pairs_tail, length_later}

-- ---- is a path met?

-- what begins with a path is not before it, so only what stands from the start on can be at it or below it
pub met_covered : (xs : List (List ℕ × Entry)) (path : List ℕ) (start : ℕ) → Any (λ e. IsAtOrBelow path e.0) (take (length xs - start) (drop start xs)) → start ≤ length xs → IsMet xs path
met_covered xs path start any le =
    let k_lt : any.0 < length xs - start = omega (arith, any.2, length_later xs start) in (
      start + any.0,
      any.1,
      omega arith,
      get_or_default xs (start + any.0) any.1 any.1 (omega arith) ∙ sym (get_or-drop start xs any.0 any.1) ∙ sym (ap (λ l. get_or l any.0 any.1) (take_rest xs start)) ∙ any.3,
      inl any.4,
    )

pub met_above : (xs : List (List ℕ × Entry)) (path : List ℕ) → Any (λ e. IsBelow e.0 path) xs → IsMet xs path
met_above xs path any = (any.0, any.1, any.2, any.3, inr any.4)

pub free_from : (xs : List (List ℕ × Entry)) (path : List ℕ) (start : ℕ) → IsStart xs path start → All (λ e. IsAtOrBelow path e.0 → ⊥) (take (length xs - start) (drop start xs)) → All (λ e. IsBelow e.0 path → ⊥) xs → IsFree xs path
free_from xs path start from later above k d lt (inr h) = above k d lt h
free_from xs path start from later above k d lt (inl h) = by (cases_lt k start)
  where
    at_least : IsAtOrBelow path (get_or xs k d).0 → IsBefore (get_or xs k d).0 path → ⊥
    at_least (inl e) b = let P : List ℕ → Type 0 = λ z. IsBefore z path in before_itself path (subst P e b)
    at_least (inr g) b = before_itself path (before_trans path (get_or xs k d).0 path (before_below path (get_or xs k d).0 g) b)

    by : (k < start) ⊎ (start ≤ k) → ⊥
    by (inl l) = at_least h (from.before k d l)
    by (inr g) =
        let m : start + (k - start) ≡ k = omega arith in
        let P : List ℕ → Type 0 = λ z. IsAtOrBelow path z in
        let same : get_or xs k d ≡ get_or (take (length xs - start) (drop start xs)) (k - start) d = ap (λ n. get_or xs n d) (sym m) ∙ sym (get_or-drop start xs (k - start) d) ∙ ap (λ l. get_or l (k - start) d) (sym (take_rest xs start)) in
        later (k - start) d (omega (arith, length_later xs start)) (subst P (ap (λ x. x.0) same) h)

-- a slash behind the path of an entry shows that the text lies below it
pub below_at : (xs : List (List ℕ × Entry)) (bytes : List ℕ) (place : ℕ) → place < length bytes → get_or bytes place 0 ≡ 47 → Any (λ e. e.0 ≡ take place bytes) xs → Any (λ e. IsBelow e.0 bytes) xs
below_at xs bytes place lt slash any = (any.0, any.1, any.2, any.3, (drop (place + 1) bytes, sym (take-append-drop place bytes) ∙ ap (λ r. take place bytes ++ r) (drop_more bytes place 0 lt ∙ ap (λ b. b ∷ drop (place + 1) bytes) slash) ∙ ap (λ f. f ++ 47 ∷ drop (place + 1) bytes) (sym any.4)))

pub any_below_same : (xs : List (List ℕ × Entry)) (bytes path : List ℕ) → bytes ≡ path → Any (λ e. IsBelow e.0 bytes) xs → Any (λ e. IsBelow e.0 path) xs
any_below_same xs bytes path same any = let P : List ℕ → Type 0 = λ z. Any (λ e. IsBelow e.0 z) xs in subst P same any

pub met_from : (xs : List (List ℕ × Entry)) (path : List ℕ) (start : ℕ) (r : Bool) → IsStart xs path start → All (λ e. IsAtOrBelow path e.0 → ⊥) (take (length xs - start) (drop start xs)) → MatchBool r (Any (λ e. IsBelow e.0 path) xs) (All (λ e. IsBelow e.0 path → ⊥) xs) → MatchBool r (IsMet xs path) (IsFree xs path)
met_from xs path start true from later above = met_above xs path above
met_from xs path start false from later above = free_from xs path start from later above

-- what is left of a tree from a start on is sorted, and the path comes up to it
pub sorted_later : (xs : List (List ℕ × Entry)) (start : ℕ) → IsTree xs → IsSortedByPath (take (length xs - start) (drop start xs))
sorted_later xs start tree =
    let P : List (List ℕ × Entry) → Type 0 = λ l. IsSortedByPath l in
    subst P (sym (take_rest xs start)) (λ i j d lt within.
    let Q : List ℕ × Entry → Type 0 = λ x. IsUpTo x.0 (get_or (drop start xs) j d).0 in
    let R : List ℕ × Entry → Type 0 = λ x. IsUpTo (get_or xs (start + i) d).0 x.0 in
    subst Q (sym (get_or-drop start xs i d)) (subst R (sym (get_or-drop start xs j d))
    (up_to_from_before (get_or xs (start + i) d).0 (get_or xs (start + j) d).0 (tree.ordered (start + i) (start + j) d (omega arith) (omega (arith, length-drop start xs))).before)))

pub first_later : (xs : List (List ℕ × Entry)) (path : List ℕ) (start : ℕ) → IsStart xs path start → All (λ e. IsUpTo path e.0) (take (length xs - start) (drop start xs))
first_later xs path start from =
    let P : List (List ℕ × Entry) → Type 0 = λ l. All (λ e. IsUpTo path e.0) l in
    subst P (sym (take_rest xs start)) (λ k d lt.
    let Q : List ℕ × Entry → Type 0 = λ x. IsUpTo path x.0 in
    subst Q (sym (get_or-drop start xs k d)) (from.after (start + k) d (omega arith) (omega (arith, length-drop start xs))))

-- ---- what is kept of a list

-- ys has just those elements of xs that have P, and each other has Q
abbrev pub IsKept : (List ℕ × Entry → Type 0) → (List ℕ × Entry → Type 0) → List (List ℕ × Entry) → List (List ℕ × Entry) → Type 0
IsKept P Q [] ys = ys ≡ []
IsKept P Q (x ∷ xs) ys = (zs : List (List ℕ × Entry)) × IsKept P Q xs zs × ((P x × (ys ≡ x ∷ zs)) ⊎ (Q x × (ys ≡ zs)))

pub all_kept : (P Q S : List ℕ × Entry → Type 0) (xs ys : List (List ℕ × Entry)) → IsKept P Q xs ys → All S xs → All S ys
all_kept P Q S [] ys kept all = let R : List (List ℕ × Entry) → Type 0 = λ l. All S l in subst R (sym kept) (All-nil S)
all_kept P Q S (x ∷ xs) ys kept all = by kept.2 (all_kept P Q S xs kept.0 kept.1 (All-tail S x xs all))
  where
    by : ((P x × (ys ≡ x ∷ kept.0)) ⊎ (Q x × (ys ≡ kept.0))) → All S kept.0 → All S ys
    by (inl h) rest = let R : List (List ℕ × Entry) → Type 0 = λ l. All S l in subst R (sym h.1) (All-cons S x kept.0 (All-head S x xs all) rest)
    by (inr h) rest = let R : List (List ℕ × Entry) → Type 0 = λ l. All S l in subst R (sym h.1) rest

pub all_pass : (P Q : List ℕ × Entry → Type 0) (xs ys : List (List ℕ × Entry)) → IsKept P Q xs ys → All P ys
all_pass P Q [] ys kept = let R : List (List ℕ × Entry) → Type 0 = λ l. All P l in subst R (sym kept) (All-nil P)
all_pass P Q (x ∷ xs) ys kept = by kept.2 (all_pass P Q xs kept.0 kept.1)
  where
    by : ((P x × (ys ≡ x ∷ kept.0)) ⊎ (Q x × (ys ≡ kept.0))) → All P kept.0 → All P ys
    by (inl h) rest = let R : List (List ℕ × Entry) → Type 0 = λ l. All P l in subst R (sym h.1) (All-cons P x kept.0 h.0 rest)
    by (inr h) rest = let R : List (List ℕ × Entry) → Type 0 = λ l. All P l in subst R (sym h.1) rest

pub pairs_kept : (P Q : List ℕ × Entry → Type 0) (R : List ℕ × Entry → List ℕ × Entry → Type 0) (xs ys : List (List ℕ × Entry)) → IsKept P Q xs ys → AllPairs R xs → AllPairs R ys
pairs_kept P Q R [] ys kept all = let S : List (List ℕ × Entry) → Type 0 = λ l. AllPairs R l in subst S (sym kept) (λ i j d lt within. absurd (omega arith))
pairs_kept P Q R (x ∷ xs) ys kept all = by kept.2 (pairs_kept P Q R xs kept.0 kept.1 (all_pairs_tail R x xs all)) (all_kept P Q (R x) xs kept.0 kept.1 (all_pairs_head R x xs all))
  where
    by : ((P x × (ys ≡ x ∷ kept.0)) ⊎ (Q x × (ys ≡ kept.0))) → AllPairs R kept.0 → All (R x) kept.0 → AllPairs R ys
    by (inl h) rest first = let S : List (List ℕ × Entry) → Type 0 = λ l. AllPairs R l in subst S (sym h.1) (AllPairs-cons R x kept.0 first rest)
    by (inr h) rest first = let S : List (List ℕ × Entry) → Type 0 = λ l. AllPairs R l in subst S (sym h.1) rest

one_on : (x : List ℕ × Entry) (xs : List (List ℕ × Entry)) (e : List ℕ × Entry) → Contains xs e → Contains (x ∷ xs) e
one_on x xs e in' = (suc in'.0, omega (arith, in'.1), in'.2)

-- an element of the list was kept, or has Q
pub kept_or : (P Q : List ℕ × Entry → Type 0) (xs ys : List (List ℕ × Entry)) (e : List ℕ × Entry) → IsKept P Q xs ys → Contains xs e → Contains ys e ⊎ Q e
kept_or P Q [] ys e kept in' = absurd (omega (arith, in'.1))
kept_or P Q (x ∷ xs) ys e kept in' = by in'.0 in'.1 in'.2 (kept_or P Q xs kept.0 e kept.1) kept.2
  where
    by : (k : ℕ) → k < length (x ∷ xs) → get_or (x ∷ xs) k e ≡ e → (Contains xs e → Contains kept.0 e ⊎ Q e) → ((P x × (ys ≡ x ∷ kept.0)) ⊎ (Q x × (ys ≡ kept.0))) → Contains ys e ⊎ Q e
    by zero lt is rest (inl h) = let R : List (List ℕ × Entry) → Type 0 = λ l. Contains l e in inl (subst R (sym h.1) (0, omega arith, is))
    by zero lt is rest (inr h) = inr (subst Q is h.0)
    by (suc k) lt is rest (inl h) =
        let R : List (List ℕ × Entry) → Type 0 = λ l. Contains l e in
        elim (rest (k, omega arith, is)) as (λ _. Contains ys e ⊎ Q e) [ inl c ↦ inl (subst R (sym h.1) (one_on x kept.0 e c)) | inr q ↦ inr q ]
    by (suc k) lt is rest (inr h) =
        let R : List (List ℕ × Entry) → Type 0 = λ l. Contains l e in
        elim (rest (k, omega arith, is)) as (λ _. Contains ys e ⊎ Q e) [ inl c ↦ inl (subst R (sym h.1) c) | inr q ↦ inr q ]

-- what is kept is of the list
pub kept_of : (P Q : List ℕ × Entry → Type 0) (xs ys : List (List ℕ × Entry)) (e : List ℕ × Entry) → IsKept P Q xs ys → Contains ys e → Contains xs e
kept_of P Q [] ys e kept in' = absurd (omega (arith, in'.1, ap length kept))
kept_of P Q (x ∷ xs) ys e kept in' = by (kept_of P Q xs kept.0 e kept.1) kept.2
  where
    first : (Contains kept.0 e → Contains xs e) → Contains (x ∷ kept.0) e → Contains (x ∷ xs) e
    first rest c = at c.0 c.1 c.2
      where
        at : (k : ℕ) → k < length (x ∷ kept.0) → get_or (x ∷ kept.0) k e ≡ e → Contains (x ∷ xs) e
        at zero lt is = (0, omega arith, is)
        at (suc k) lt is = one_on x xs e (rest (k, omega arith, is))

    by : (Contains kept.0 e → Contains xs e) → ((P x × (ys ≡ x ∷ kept.0)) ⊎ (Q x × (ys ≡ kept.0))) → Contains (x ∷ xs) e
    by rest (inl h) = let R : List (List ℕ × Entry) → Type 0 = λ l. Contains l e in first rest (subst R h.1 in')
    by rest (inr h) = let R : List (List ℕ × Entry) → Type 0 = λ l. Contains l e in one_on x xs e (rest (subst R h.1 in'))

-- what `retain` leaves, where the test keeps its word as long as something holds of it, and that goes on holding
module _ {S : Type 0} (R : S → List ℕ × Entry → Bool → S → Type 0) (P Q : List ℕ × Entry → Type 0) (I : S → Type 0) (says : (s : S) (x : List ℕ × Entry) (b : Bool) (t : S) → I s → R s x b t → MatchBool b (P x) (Q x) × I t) where
  kept_in_turn : (xs : List (List ℕ × Entry)) (bs : List Bool) (s q : S) → I s → length bs ≡ length xs → ReturnsInTurn R s bs xs q → IsKept P Q xs (items_where_true bs xs)
  kept_in_turn [] [] s q holds len turns = refl
  kept_in_turn [] (b ∷ bs) s q holds len turns = absurd (omega (arith, len))
  kept_in_turn (x ∷ xs) [] s q holds len turns = absurd (omega (arith, len))
  kept_in_turn (x ∷ xs) (true ∷ bs) s q holds len turns =
      let said = says s x true turns.0 holds turns.1 in
      (items_where_true bs xs, kept_in_turn xs bs turns.0 q said.1 (omega (arith, len)) turns.2, inl (said.0, refl))
  kept_in_turn (x ∷ xs) (false ∷ bs) s q holds len turns =
      let said = says s x false turns.0 holds turns.1 in
      (items_where_true bs xs, kept_in_turn xs bs turns.0 q said.1 (omega (arith, len)) turns.2, inr (said.0, refl))

  pub kept_from_filtered : (start : S) (xs ys : List (List ℕ × Entry)) → I start → IsFiltered R start xs ys → IsKept P Q xs ys
  kept_from_filtered start xs ys holds h = let T : List (List ℕ × Entry) → Type 0 = λ l. IsKept P Q xs l in subst T (sym h.4) (kept_in_turn xs h.0 start h.1 holds h.2 h.3)

-- ---- entries as elements

pub element_at : (xs : List (List ℕ × Entry)) (q : List ℕ) (e : Entry) → IsTree xs → entry_at xs q ≡ Some e → Contains xs (q, e)
element_at xs q e tree held =
    let T : Option Entry → Type 0 = λ o. IsSome o in
    let at = place_held xs q (subst T (sym held) refl) in
    let here : entry_at xs q ≡ Some (get_or xs at.0 (q, e)).1 = at_place xs q at.0 (ascending_from_tree xs tree) at.1 (q, e) in
    let same : e ≡ (get_or xs at.0 (q, e)).1 = cc in
    (at.0, at.1.0, λ i. (at.1.1 (q, e) i, sym same i))

pub at_element : (xs : List (List ℕ × Entry)) (q : List ℕ) (e : Entry) → IsTree xs → Contains xs (q, e) → entry_at xs q ≡ Some e
at_element xs q e tree in' =
    at_place xs q in'.0 (ascending_from_tree xs tree) (in'.1, λ d. ap (λ x. x.0) (get_or_default xs in'.0 d (q, e) in'.1 ∙ in'.2)) (q, e) ∙ ap (λ x. Some x.1) in'.2

-- ---- lists whose paths don't meet

abbrev Apart : List (List ℕ × Entry) → Type 0
Apart xs = AllPairs (λ a b. Meets a.0 b.0 → ⊥) xs

apart_tree : (xs : List (List ℕ × Entry)) → IsTree xs → Apart xs
apart_tree xs tree i j d lt within m = by m
  where
    by : Meets (get_or xs i d).0 (get_or xs j d).0 → ⊥
    by (inl (inl e)) = let P : List ℕ → Type 0 = λ z. IsBefore (get_or xs i d).0 z in before_itself (get_or xs i d).0 (subst P e ((tree.ordered i j d lt within).before))
    by (inl (inr h)) = (tree.ordered i j d lt within).not_above h
    by (inr h) = (tree.ordered i j d lt within).not_below h

pairs_append : (R : List ℕ × Entry → List ℕ × Entry → Type 0) (xs ys : List (List ℕ × Entry)) → AllPairs R xs → AllPairs R ys → All (λ x. All (R x) ys) xs → AllPairs R (xs ++ ys)
pairs_append R [] ys a b across = b
pairs_append R (x ∷ xs) ys a b across =
    AllPairs-cons R x (xs ++ ys) (All-append (R x) xs ys (all_pairs_head R x xs a) (All-head (λ z. All (R z) ys) x xs across))
    (pairs_append R xs ys (all_pairs_tail R x xs a) b (All-tail (λ z. All (R z) ys) x xs across))

meets_back : (a b : List ℕ) → Meets a b → Meets b a
meets_back a b (inl (inl e)) = inl (inl (sym e))
meets_back a b (inl (inr h)) = inr h
meets_back a b (inr h) = inl (inr h)

-- no element lies below another of a list whose paths don't meet
none_over : (xs : List (List ℕ × Entry)) (q : List ℕ) → Apart xs → Any (λ e. e.0 ≡ q) xs → Any (λ e. IsBelow q e.0) xs → ⊥
none_over xs q apart here over = by (cases_lt here.0 over.0) (cases_lt over.0 here.0)
  where
    at : (get_or xs here.0 here.1).0 ≡ q
    at = ap (λ x. x.0) here.3 ∙ here.4

    under : IsBelow q (get_or xs over.0 here.1).0
    under = let P : List ℕ → Type 0 = λ z. IsBelow q z in subst P (sym (ap (λ x. x.0) (get_or_default xs over.0 here.1 over.1 over.2 ∙ over.3))) over.4

    below : IsBelow (get_or xs here.0 here.1).0 (get_or xs over.0 here.1).0
    below = let P : List ℕ → Type 0 = λ z. IsBelow z (get_or xs over.0 here.1).0 in subst P (sym (ap (λ x. x.0) here.3 ∙ here.4)) under

    by : (here.0 < over.0) ⊎ (over.0 ≤ here.0) → (over.0 < here.0) ⊎ (here.0 ≤ over.0) → ⊥
    by (inl lt) _ = apart here.0 over.0 here.1 lt over.2 (inl (inr below))
    by (inr le) (inl lt) = apart over.0 here.0 here.1 lt here.2 (inr below)
    by (inr le) (inr ge) =
        let m : over.0 ≡ here.0 = omega arith in
        let P : List ℕ → Type 0 = λ z. IsBelow q z in
        before_itself q (before_below q q (subst P (ap (λ n. (get_or xs n here.1).0) m ∙ at) under))

none_twice : (xs : List (List ℕ × Entry)) (q : List ℕ) → Apart xs → StandsTwice xs q → ⊥
none_twice [] q apart twice = absurd (omega (arith, twice))
none_twice (x ∷ xs) q apart twice =
    let t = places_from_twice (x ∷ xs) q twice in
    apart t.left t.right x t.apart t.second.0 (inl (inl (t.second.1 x ∙ sym (t.first.1 x))))

-- a sorted list in another order of one whose paths are clean and don't meet is a tree
pub sorted_tree : (xs ys : List (List ℕ × Entry)) → Apart xs → All (λ e. IsClean e.0) xs → IsPermutation xs ys → IsSortedByPath ys → IsTree ys
sorted_tree xs ys apart clean perm sorted = record {
  clean = All-permutation (λ e. IsClean e.0) xs ys perm clean;
  ordered = λ i j d lt within. precedes_apart (get_or ys i d).0 (get_or ys j d).0 (sorted i j d lt within) (λ c. by i j d lt within c);
}
  where
    here : (i : ℕ) (d : List ℕ × Entry) → i < length ys → Any (λ e. e.0 ≡ (get_or ys i d).0) ys
    here i d lt = (i, get_or ys i d, lt, get_or_default ys i (get_or ys i d) d lt, refl)

    by : (i j : ℕ) (d : List ℕ × Entry) → i < j → j < length ys → IsAtOrBelow (get_or ys i d).0 (get_or ys j d).0 → ⊥
    by i j d lt within (inl e) =
        let twice : StandsTwice ys (get_or ys i d).0 = twice_from_places ys (get_or ys i d).0 i j lt (omega arith, λ f. ap (λ x. x.0) (get_or_default ys i f d (omega arith))) (within, λ f. ap (λ x. x.0) (get_or_default ys j f d within) ∙ e) in
        none_twice xs (get_or ys i d).0 apart (omega (arith, twice, sum_by-IsPermutation (λ x. cond {A = ℕ} (bytes_eq x.0 (get_or ys i d).0) 1 0) ys xs (IsPermutation-sym xs ys perm)))
    by i j d lt within (inr h) =
        none_over xs (get_or ys i d).0 apart
        (any_permuted (λ e. e.0 ≡ (get_or ys i d).0) ys xs (IsPermutation-sym xs ys perm) (here i d (omega arith)))
        (any_permuted (λ e. IsBelow (get_or ys i d).0 e.0) ys xs (IsPermutation-sym xs ys perm) (j, get_or ys j d, within, get_or_default ys j (get_or ys j d) d within, h))

-- ---- the overlay

-- an entry stays where no later path meets its own
abbrev pub Stays : List (List ℕ × Entry) → List ℕ × Entry → Type 0
Stays later e = IsFree later e.0

abbrev pub Goes : List (List ℕ × Entry) → List ℕ × Entry → Type 0
Goes later e = IsMet later e.0

pub overlay_is : (earlier later kept both : List (List ℕ × Entry)) → IsTree earlier → IsTree later → IsKept (Stays later) (Goes later) earlier kept → IsPermutation (later ++ kept) both → IsSortedByPath both → IsOverlay earlier later both
overlay_is earlier later kept both t1 t2 is perm sorted = record {
  tree = tree;
  laid = λ q held. laid q (entry_at later q) refl held;
  left = λ q free. left q free (entry_at both q) refl;
}
  where
    tree : IsTree both
    tree = sorted_tree (later ++ kept) both
        (pairs_append (λ a b. Meets a.0 b.0 → ⊥) later kept (apart_tree later t2) (pairs_kept (Stays later) (Goes later) (λ a b. Meets a.0 b.0 → ⊥) earlier kept is (apart_tree earlier t1))
        (λ i d lt j f within m. (all_pass (Stays later) (Goes later) earlier kept is) j f within i d lt (meets_back (get_or later i d).0 (get_or kept j f).0 m)))
        (All-append (λ e. IsClean e.0) later kept t2.clean (all_kept (Stays later) (Goes later) (λ e. IsClean e.0) earlier kept is t1.clean))
        perm sorted

    laid : (q : List ℕ) (o : Option Entry) → entry_at later q ≡ o → IsSome (entry_at later q) → entry_at both q ≡ entry_at later q
    laid q (Some e) at held = at_element both q e tree (Contains-permutation (later ++ kept) both (q, e) perm (Contains-append_left later kept (q, e) (element_at later q e t2 at))) ∙ sym at
    laid q None at held = absurd (cc)

    left : (q : List ℕ) → IsFree later q → (o : Option Entry) → entry_at both q ≡ o → entry_at both q ≡ entry_at earlier q
    left q free (Some e) at = from (Contains-append_cases later kept (q, e) (Contains-permutation both (later ++ kept) (q, e) (IsPermutation-sym (later ++ kept) both perm) (element_at both q e tree at)))
      where
        from : Contains later (q, e) ⊎ Contains kept (q, e) → entry_at both q ≡ entry_at earlier q
        from (inl c) = absurd (free c.0 (q, e) c.1 (inl (inl (ap (λ x. x.0) c.2))))
        from (inr c) = at ∙ sym (at_element earlier q e t1 (kept_of (Stays later) (Goes later) earlier kept (q, e) is c))
    left q free None at = at ∙ sym (gone (entry_at earlier q) refl)
      where
        gone : (p : Option Entry) → entry_at earlier q ≡ p → entry_at earlier q ≡ None
        gone None h = h
        gone (Some e) h = split (kept_or (Stays later) (Goes later) earlier kept (q, e) is (element_at earlier q e t1 h))
          where
            split : Contains kept (q, e) ⊎ IsMet later q → entry_at earlier q ≡ None
            split (inr m) = absurd (free m.0 m.1 m.2 (let P : List ℕ → Type 0 = λ z. Meets q z in subst P (sym (ap (λ x. x.0) m.3)) m.4))
            split (inl c) = let here = at_element both q e tree (Contains-permutation (later ++ kept) both (q, e) perm (Contains-append_right later kept (q, e) c)) in absurd (cc)

-- the later entries and what was kept, in the order of their paths
pub in_order : (later copied reserved kept joined both : List (List ℕ × Entry)) → copied ≡ later → reserved ≡ copied → joined ≡ reserved ++ kept → IsPermutation joined both → IsPermutation (later ++ kept) both
in_order later copied reserved kept joined both e f g perm =
    let P : List (List ℕ × Entry) → Type 0 = λ l. IsPermutation l both in
    subst P (g ∙ ap (λ l. l ++ kept) (f ∙ e)) perm

-- the answer of a test turned round
pub turned : (r b : Bool) (P Q : Type 0) → b ≡ not r → MatchBool r Q P → MatchBool b P Q
turned true b P Q e h = let T : Bool → Type 0 = λ t. MatchBool t P Q in subst T (sym e) h
turned false b P Q e h = let T : Bool → Type 0 = λ t. MatchBool t P Q in subst T (sym e) h

-- the same, with what was left first
pub kept_by_test : {S : Type 0} (R : S → List ℕ × Entry → Bool → S → Type 0) (P Q : List ℕ × Entry → Type 0) (start : S) (xs ys : List (List ℕ × Entry)) (I : S → Type 0) → IsFiltered R start xs ys → I start → ((s : S) (x : List ℕ × Entry) (b : Bool) (t : S) → I s → R s x b t → MatchBool b (P x) (Q x) × I t) → IsKept P Q xs ys
kept_by_test R P Q start xs ys I h holds says = kept_from_filtered R P Q I says start xs ys holds h
