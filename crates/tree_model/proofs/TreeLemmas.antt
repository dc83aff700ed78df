-- Lists of entries: what they hold at a path, and what checks of them tell.
use Rattle.std.proofs.Common.{◌≡◌, ◌<◌, ◌≤◌, ◌+◌, ◌-◌, ◌∙◌, ◌⊎◌, inl, inr, sym, ap, subst, refl, ℕ, zero, suc, List, [], ◌∷◌, length, drop, take, All, arith, get_or, length-drop, slice_index_or, Bool, true, false, cond, Option, Some, None, Result, Ok, Err}
use Rattle.std.specs.Prelude.{Any, IsPermutation, IsSome, MatchResult, option_map, find, max, min, count_by, ◌^◌}
use Rattle.std.specs.Str.{bytes_eq}
use Rattle.std.specs.List.Sorted.{IsBinarySearchResult, IsSearchInRange, IsSortedBy}
use Rattle.std.specs.Ordering.{nat_cmp, is_lt, ordering_reverse}
use Rattle.std.specs.Cmp.Lexicographic.{slice_cmp}
use Rattle.std.proofs.lemmas.Bool.{cases_lt, cond-true, cond-false, false_from_ne_true}
use Rattle.std.proofs.lemmas.Cmp.{nat_list_cmp_total}
use Rattle.std.proofs.lemmas.List.{get_or-drop, get_or_read, get_or_default, take_all, drop_more, at_drop_more, at_drop_all}
use Rattle.std.proofs.lemmas.List.Sorted.{Contains-permutation, sum_by-IsPermutation, searchable_from_sorted, IsPermutation-sym, sorted_far, ranks_by}
use Rattle.std.proofs.lemmas.List.Sums.{sum_by-cons}
use Rattle.std.proofs.lemmas.Slice.Eq.{bytes_eq-Decides}
use borrow.Author.Count.{below_more}
use Rattle.tree_model.specs.declared.entry.Entry.{Entry}
use Rattle.tree_model.specs.Path.{IsClean, IsBelow, IsAtOrBelow, IsBefore, IsUpTo, BeginsWith}
use Rattle.tree_model.specs.Tree.{Precedes, IsTree, IsAscending, IsSortedByPath, IsGap, StandsAt, entry_at}
use Rattle.tree_model.specs.Refusal.{IsBadPath, IsFirstBadPath, StandsTwice}
use Rattle.tree_model.specs.Size.{entry_length, largest_of, bytes_of}
use Rattle.tree_model.proofs.OrderLemmas.{before_itself, up_to_from_before, up_to_itself, same_from_tie, not_before_back, before_below, begins_between, begins_at_or_below, precedes_apart}

pub clean_more : (xs : List (List ℕ × Entry)) (i : ℕ) (path : List ℕ) (e : List ℕ × Entry) → i < length xs → e ≡ get_or xs i e → path ≡ e.0 → IsClean path → ((k : ℕ) (d : List ℕ × Entry) → k < i → IsClean (slice_index_or xs k d).0) → (k : ℕ) (d : List ℕ × Entry) → k < i + 1 → IsClean (slice_index_or xs k d).0
clean_more xs i path e lt is same clean below k d k_lt =
    below_more (λ m. IsClean (get_or xs m d).0) i (λ m h. below m d h)
    (let P : List ℕ → Type 0 = λ p. IsClean p in subst P (same ∙ ap (λ x. x.0) (get_or_read xs i e lt is d)) clean) k k_lt

-- an element of what is left of a list behind a place, which `&xs[i + 1..]` gives
behind_at : (xs : List (List ℕ × Entry)) (i j : ℕ) (d : List ℕ × Entry) → i < j → j < length xs → (get_or (take (length xs - (i + 1)) (drop (i + 1) xs)) (j - (i + 1)) d ≡ get_or xs j d) × (j - (i + 1) < length (take (length xs - (i + 1)) (drop (i + 1) xs)))
behind_at xs i j d lt within =
    let n : i + 1 + (j - (i + 1)) ≡ j = omega arith in
    let whole : take (length xs - (i + 1)) (drop (i + 1) xs) ≡ drop (i + 1) xs = take_all (length xs - (i + 1)) (drop (i + 1) xs) (omega (arith, length-drop (i + 1) xs)) in (
      ap (λ l. get_or l (j - (i + 1)) d) whole ∙ get_or-drop (i + 1) xs (j - (i + 1)) d ∙ ap (λ m. get_or xs m d) n,
      omega (arith, length-drop (i + 1) xs, ap length whole),
    )

-- the paths before a place are clean
abbrev CleanBefore : List (List ℕ × Entry) → ℕ → Type 0
CleanBefore xs i = (k : ℕ) (d : List ℕ × Entry) → k < i → IsClean (get_or xs k d).0

-- each path before a place precedes all that stand behind it
abbrev OrderedBefore : List (List ℕ × Entry) → ℕ → Type 0
OrderedBefore xs i = (k j : ℕ) (d : List ℕ × Entry) → k < i → k < j → j < length xs → Precedes (get_or xs k d).0 (get_or xs j d).0

pub ordered_more : (xs : List (List ℕ × Entry)) (i : ℕ) (path : List ℕ) (e : List ℕ × Entry) → i < length xs → e ≡ get_or xs i e → path ≡ e.0 → IsSortedByPath xs → All (λ x. IsAtOrBelow path x.0 → ⊥) (take (length xs - (i + 1)) (drop (i + 1) xs)) → OrderedBefore xs i → OrderedBefore xs (i + 1)
ordered_more xs i path e lt is same sorted all below k j d k_lt kj j_lt =
    below_more (λ m. m < j → Precedes (get_or xs m d).0 (get_or xs j d).0) i (λ m h mj. below m j d h mj j_lt)
    (λ ij.
    let here : path ≡ (get_or xs i d).0 = same ∙ ap (λ x. x.0) (get_or_read xs i e lt is d) in
    let at = behind_at xs i j d ij j_lt in
    let Q : List ℕ → Type 0 = λ p. IsAtOrBelow path p → ⊥ in
    let P : List ℕ → Type 0 = λ p. IsAtOrBelow p (get_or xs j d).0 → ⊥ in
    precedes_apart (get_or xs i d).0 (get_or xs j d).0 (sorted i j d ij j_lt) (subst P here (subst Q (ap (λ x. x.0) at.0) (all (j - (i + 1)) d at.1))))
    k k_lt kj

pub up_to_behind : (xs : List (List ℕ × Entry)) (i : ℕ) (path : List ℕ) (e : List ℕ × Entry) → i < length xs → e ≡ get_or xs i e → path ≡ e.0 → IsSortedByPath xs → All (λ x. IsUpTo path x.0) (take (length xs - (i + 1)) (drop (i + 1) xs))
up_to_behind xs i path e lt is same sorted =
    let whole : take (length xs - (i + 1)) (drop (i + 1) xs) ≡ drop (i + 1) xs = take_all (length xs - (i + 1)) (drop (i + 1) xs) (omega (arith, length-drop (i + 1) xs)) in
    let P : List (List ℕ × Entry) → Type 0 = λ l. All (λ x. IsUpTo path x.0) l in
    subst P (sym whole) (λ k d lt2.
    let here : path ≡ (get_or xs i d).0 = same ∙ ap (λ x. x.0) (get_or_read xs i e lt is d) in
    let Q : List ℕ → Type 0 = λ p. IsUpTo p (get_or (drop (i + 1) xs) k d).0 in
    let R : List ℕ → Type 0 = λ p. IsUpTo (get_or xs i d).0 p in
    subst Q (sym here) (subst R (sym (ap (λ x. x.0) (get_or-drop (i + 1) xs k d))) (sorted i (i + 1 + k) d (omega arith) (omega (arith, length-drop (i + 1) xs)))))

-- once a path no more begins with the first, none behind it is the first or lies below it
pub none_behind : (xs : List (List ℕ × Entry)) (path at : List ℕ) (i : ℕ) (e : List ℕ × Entry) → i < length xs → e ≡ get_or xs i e → at ≡ e.0 → IsSortedByPath xs → All (λ x. IsUpTo path x.0) xs → (BeginsWith path at → ⊥) → ((k : ℕ) (d : List ℕ × Entry) → k < i → IsAtOrBelow path (get_or xs k d).0 → ⊥) → All (λ x. IsAtOrBelow path x.0 → ⊥) xs
none_behind xs path at i e lt is same sorted first other below k d k_lt covered =
    let here : at ≡ (get_or xs i d).0 = same ∙ ap (λ x. x.0) (get_or_read xs i e lt is d) in
    let P : List ℕ → Type 0 = λ p. BeginsWith path p in
    let begins : BeginsWith path (get_or xs k d).0 = begins_at_or_below path (get_or xs k d).0 covered in
    by here begins (cases_lt k i)
  where
    by : at ≡ (get_or xs i d).0 → BeginsWith path (get_or xs k d).0 → (k < i) ⊎ (i ≤ k) → ⊥
    by here begins (inl h) = below k d h covered
    by here begins (inr h) =
        let P : List ℕ → Type 0 = λ p. BeginsWith path p in
        let up : IsUpTo (get_or xs i d).0 (get_or xs k d).0 = up_along (cases_lt i k) in
        other (subst P (sym here) (begins_between path (get_or xs i d).0 (get_or xs k d).0 begins.0 (first i d lt) up begins.1))
      where
        up_along : (i < k) ⊎ (k ≤ i) → IsUpTo (get_or xs i d).0 (get_or xs k d).0
        up_along (inl g) = sorted i k d g k_lt
        up_along (inr g) = let same_place : k ≡ i = omega arith in let P : ℕ → Type 0 = λ m. IsUpTo (get_or xs i d).0 (get_or xs m d).0 in subst P (sym same_place) (up_to_itself (get_or xs i d).0)

-- one more path that isn't the first and doesn't lie below it
pub not_covered_more : (xs : List (List ℕ × Entry)) (path at : List ℕ) (i : ℕ) (e : List ℕ × Entry) → i < length xs → e ≡ get_or xs i e → at ≡ e.0 → (IsAtOrBelow path at → ⊥) → ((k : ℕ) (d : List ℕ × Entry) → k < i → IsAtOrBelow path (get_or xs k d).0 → ⊥) → (k : ℕ) (d : List ℕ × Entry) → k < i + 1 → IsAtOrBelow path (get_or xs k d).0 → ⊥
not_covered_more xs path at i e lt is same other below k d k_lt =
    below_more (λ m. IsAtOrBelow path (get_or xs m d).0 → ⊥) i (λ m h. below m d h)
    (let P : List ℕ → Type 0 = λ p. IsAtOrBelow path p → ⊥ in subst P (same ∙ ap (λ x. x.0) (get_or_read xs i e lt is d)) other) k k_lt

-- ---- places by a binary search

sorted_from_ascending : (xs : List (List ℕ × Entry)) → IsAscending xs → IsSortedBy (λ a b. is_lt (slice_cmp nat_cmp a.0 b.0)) xs
sorted_from_ascending xs asc k d low lt = up_to_from_before (get_or xs k d).0 (get_or xs (k + 1) d).0 (asc k (k + 1) d (omega arith) lt)

pub place_from_search : (xs : List (List ℕ × Entry)) (path : List ℕ) (r : Result ℕ ℕ) → IsAscending xs → IsSearchInRange r (length xs) → IsBinarySearchResult (λ e. slice_cmp nat_cmp e.0 path) xs r → MatchResult r (StandsAt xs path) (IsGap xs path)
place_from_search xs path (Ok i) asc bound found = (bound, λ d. same_from_tie (get_or xs i d).0 path (found d))
place_from_search xs path (Err i) asc bound found =
    let parts = found (searchable_from_sorted nat_list_cmp_total (λ e. e.0) xs path (sorted_from_ascending xs asc)) in record {
      within = bound;
      before = λ k d lt. parts.0 k d (omega arith) lt;
      after = λ k d le lt. nat_list_cmp_total.antisymm path (get_or xs k d).0 ∙ ap ordering_reverse (parts.1 k d le lt);
    }

-- ---- what a list holds at a path

pub at_cons_same : (e : List ℕ × Entry) (es : List (List ℕ × Entry)) (q : List ℕ) → e.0 ≡ q → entry_at (e ∷ es) q ≡ Some e.1
at_cons_same e es q h = ap (option_map (λ x. x.1)) (cond-true (bytes_eq e.0 q) (Some e) (find (λ x. bytes_eq x.0 q) es) ((bytes_eq-Decides e.0 q).1 h))

pub at_cons_other : (e : List ℕ × Entry) (es : List (List ℕ × Entry)) (q : List ℕ) → (e.0 ≡ q → ⊥) → entry_at (e ∷ es) q ≡ entry_at es q
at_cons_other e es q h = ap (option_map (λ x. x.1)) (cond-false (bytes_eq e.0 q) (Some e) (find (λ x. bytes_eq x.0 q) es) (false_from_ne_true (bytes_eq e.0 q) (λ t. h ((bytes_eq-Decides e.0 q).0 t))))

-- a path that no entry has holds nothing
pub at_none : (xs : List (List ℕ × Entry)) (q : List ℕ) → All (λ e. e.0 ≡ q → ⊥) xs → entry_at xs q ≡ None
at_none [] q other = refl
at_none (x ∷ xs) q other = at_cons_other x xs q (other 0 x (omega arith)) ∙ at_none xs q (λ k d lt. other (suc k) d (omega arith))

pub ascending_tail : (x : List ℕ × Entry) (xs : List (List ℕ × Entry)) → IsAscending (x ∷ xs) → IsAscending xs
ascending_tail x xs asc i j d lt within = asc (suc i) (suc j) d (omega arith) (omega arith)

-- in an ascending list the entry at a path's place is what the path holds
pub at_place : (xs : List (List ℕ × Entry)) (q : List ℕ) (i : ℕ) → IsAscending xs → StandsAt xs q i → (d : List ℕ × Entry) → entry_at xs q ≡ Some (get_or xs i d).1
at_place [] q i asc at d = absurd (omega (arith, at.0))
at_place (x ∷ xs) q zero asc at d = at_cons_same x xs q (at.1 x)
at_place (x ∷ xs) q (suc i) asc at d =
    at_cons_other x xs q (λ h. before_itself q (
    let P : List ℕ → Type 0 = λ p. IsBefore p q in
    let Q : List ℕ → Type 0 = λ p. IsBefore x.0 p in
    subst P h (subst Q (at.1 d) (asc 0 (suc i) d (omega arith) at.0))))
    ∙ at_place xs q i (ascending_tail x xs asc) (omega (arith, at.0), at.1) d

-- a path that holds something stands in the list
pub place_held : (xs : List (List ℕ × Entry)) (q : List ℕ) → IsSome (entry_at xs q) → (i : ℕ) × StandsAt xs q i
place_held [] q held = absurd (cc)
place_held (x ∷ xs) q held = by (place_held xs q) (bytes_eq x.0 q) refl
  where
    by : (IsSome (entry_at xs q) → (i : ℕ) × StandsAt xs q i) → (t : Bool) → bytes_eq x.0 q ≡ t → (i : ℕ) × StandsAt (x ∷ xs) q i
    by rest true e = (0, (omega arith, λ d. (bytes_eq-Decides x.0 q).0 e))
    by rest false e =
        let P : Option Entry → Type 0 = λ o. IsSome o in
        let r = rest (subst P (at_cons_other x xs q (λ h. (let t = (bytes_eq-Decides x.0 q).1 h in cc))) held) in
        (suc r.0, (omega (arith, r.1.0), r.1.1))

-- where a path has only a gap no entry has it
pub none_gap : (xs : List (List ℕ × Entry)) (q : List ℕ) (i : ℕ) → IsGap xs q i → All (λ e. e.0 ≡ q → ⊥) xs
none_gap xs q i gap k d lt same = by (cases_lt k i)
  where
    by : (k < i) ⊎ (i ≤ k) → ⊥
    by (inl h) = let P : List ℕ → Type 0 = λ p. IsBefore p q in before_itself q (subst P same (gap.before k d h))
    by (inr h) = let P : List ℕ → Type 0 = λ p. IsBefore q p in before_itself q (subst P same (gap.after k d h lt))

-- and it holds nothing
pub at_gap : (xs : List (List ℕ × Entry)) (q : List ℕ) (i : ℕ) → IsGap xs q i → entry_at xs q ≡ None
at_gap xs q i gap = at_none xs q (none_gap xs q i gap)

-- a path that stands somewhere is an entry's
pub any_stands : (xs : List (List ℕ × Entry)) (q : List ℕ) (i : ℕ) → StandsAt xs q i → Any (λ e. e.0 ≡ q) xs
any_stands [] q i at = absurd (omega (arith, at.0))
any_stands (x ∷ xs) q i at = (i, get_or (x ∷ xs) i x, at.0, get_or_default (x ∷ xs) i (get_or (x ∷ xs) i x) x at.0, at.1 x)

pub ascending_from_tree : (xs : List (List ℕ × Entry)) → IsTree xs → IsAscending xs
ascending_from_tree xs tree i j d lt within = (tree.ordered i j d lt within).before

-- ---- the refusal of what is no tree

abbrev entries_with : List ℕ → List (List ℕ × Entry) → ℕ
entries_with q xs = count_by (λ e. bytes_eq e.0 q) xs

count_same : (x : List ℕ × Entry) (xs : List (List ℕ × Entry)) (q : List ℕ) → bytes_eq x.0 q ≡ true → entries_with q (x ∷ xs) ≡ 1 + entries_with q xs
count_same x xs q e = sum_by-cons (λ y. cond {A = ℕ} (bytes_eq y.0 q) 1 0) x xs ∙ ap (λ n. n + entries_with q xs) (cond-true {A = ℕ} (bytes_eq x.0 q) 1 0 e)

count_other : (x : List ℕ × Entry) (xs : List (List ℕ × Entry)) (q : List ℕ) → bytes_eq x.0 q ≡ false → entries_with q (x ∷ xs) ≡ 0 + entries_with q xs
count_other x xs q e = sum_by-cons (λ y. cond {A = ℕ} (bytes_eq y.0 q) 1 0) x xs ∙ ap (λ n. n + entries_with q xs) (cond-false {A = ℕ} (bytes_eq x.0 q) 1 0 e)

count_any : (x : List ℕ × Entry) (xs : List (List ℕ × Entry)) (q : List ℕ) → entries_with q xs ≤ entries_with q (x ∷ xs)
count_any x xs q = by (bytes_eq x.0 q) refl
  where
    by : (t : Bool) → bytes_eq x.0 q ≡ t → entries_with q xs ≤ entries_with q (x ∷ xs)
    by true e = omega (arith, count_same x xs q e)
    by false e = omega (arith, count_other x xs q e)

-- a place with a path is an entry, and two places are two
once_from_place : (xs : List (List ℕ × Entry)) (q : List ℕ) (i : ℕ) → StandsAt xs q i → 0 < entries_with q xs
once_from_place [] q i at = absurd (omega (arith, at.0))
once_from_place (x ∷ xs) q zero at = omega (arith, count_same x xs q ((bytes_eq-Decides x.0 q).1 (at.1 x)))
once_from_place (x ∷ xs) q (suc i) at = omega (arith, count_any x xs q, once_from_place xs q i (omega (arith, at.0), at.1))

pub twice_from_places : (xs : List (List ℕ × Entry)) (q : List ℕ) (i j : ℕ) → i < j → StandsAt xs q i → StandsAt xs q j → StandsTwice xs q
twice_from_places [] q i j lt at at' = absurd (omega (arith, at.0))
twice_from_places (x ∷ xs) q i zero lt at at' = absurd (omega arith)
twice_from_places (x ∷ xs) q zero (suc j) lt at at' = omega (arith, count_same x xs q ((bytes_eq-Decides x.0 q).1 (at.1 x)), once_from_place xs q j (omega (arith, at'.0), at'.1))
twice_from_places (x ∷ xs) q (suc i) (suc j) lt at at' = omega (arith, count_any x xs q, twice_from_places xs q i j (omega arith) (omega (arith, at.0), at.1) (omega (arith, at'.0), at'.1))

place_from_once : (xs : List (List ℕ × Entry)) (q : List ℕ) → 0 < entries_with q xs → (i : ℕ) × StandsAt xs q i
place_from_once [] q once = absurd (omega arith)
place_from_once (x ∷ xs) q once = by (place_from_once xs q) (bytes_eq x.0 q) refl
  where
    by : (0 < entries_with q xs → (i : ℕ) × StandsAt xs q i) → (t : Bool) → bytes_eq x.0 q ≡ t → (i : ℕ) × StandsAt (x ∷ xs) q i
    by rest true e = (0, (omega arith, λ d. (bytes_eq-Decides x.0 q).0 e))
    by rest false e = let r = rest (omega (arith, count_other x xs q e)) in (suc r.0, (omega (arith, r.1.0), r.1.1))

-- two places of one path
pub record TwoPlaces (xs : List (List ℕ × Entry)) (q : List ℕ) : Type 0 where
  pub left : ℕ
  pub right : ℕ
  pub apart : left < right
  pub first : StandsAt xs q left
  pub second : StandsAt xs q right

pub places_from_twice : (xs : List (List ℕ × Entry)) (q : List ℕ) → StandsTwice xs q → TwoPlaces xs q
places_from_twice [] q twice = absurd (omega arith)
places_from_twice (x ∷ xs) q twice = by (places_from_twice xs q) (bytes_eq x.0 q) refl
  where
    by : (StandsTwice xs q → TwoPlaces xs q) → (t : Bool) → bytes_eq x.0 q ≡ t → TwoPlaces (x ∷ xs) q
    by rest true e =
        let r = place_from_once xs q (omega (arith, count_same x xs q e)) in record {
          left = 0;
          right = suc r.0;
          apart = omega arith;
          first = (omega arith, λ d. (bytes_eq-Decides x.0 q).0 e);
          second = (omega (arith, r.1.0), r.1.1);
        }
    by rest false e =
        let r = rest (omega (arith, count_other x xs q e)) in record {
          left = suc r.left;
          right = suc r.right;
          apart = omega (arith, r.apart);
          first = (omega (arith, r.first.0), r.first.1);
          second = (omega (arith, r.second.0), r.second.1);
        }

-- a path comes up to one that stands at its place or behind it
up_to_later : (xs : List (List ℕ × Entry)) (i j : ℕ) (path q : List ℕ) → StandsAt xs path i → StandsAt xs q j → IsSortedByPath xs → i ≤ j → IsUpTo path q
up_to_later [] i j path q at at' sorted le = absurd (omega (arith, at.0))
up_to_later (x ∷ xs) i j path q at at' sorted le = by (cases_lt i j)
  where
    by : (i < j) ⊎ (j ≤ i) → IsUpTo path q
    by (inl lt) =
        let P : List ℕ → Type 0 = λ p. IsUpTo p q in
        let Q : List ℕ → Type 0 = λ p. IsUpTo (get_or (x ∷ xs) i x).0 p in
        subst P (at.1 x) (subst Q (at'.1 x) (sorted i j x lt at'.0))
    by (inr ge) =
        let m : j ≡ i = omega arith in
        let same : path ≡ q = sym (at.1 x) ∙ ap (λ n. (get_or (x ∷ xs) n x).0) (sym m) ∙ at'.1 x in
        let Q : List ℕ → Type 0 = λ p. IsUpTo path p in
        subst Q same (up_to_itself path)

-- two entries of which the first precedes the second have no common path
no_common_path : (a b q : List ℕ) → a ≡ q → b ≡ q → Precedes a b → ⊥
no_common_path a b q e f p =
    let P : List ℕ → Type 0 = λ z. IsBefore z q in
    let Q : List ℕ → Type 0 = λ z. IsBefore a z in
    before_itself q (subst P e (subst Q f p.before))

-- the first bad place has the first bad path
pub first_bad : (xs : List (List ℕ × Entry)) (i : ℕ) (path : List ℕ) → StandsAt xs path i → IsSortedByPath xs → CleanBefore xs i → OrderedBefore xs i → (q : List ℕ) → IsBadPath xs q → IsUpTo path q
first_bad xs i path at sorted clean ordered q bad = by (cases_lt bad.stands.0 i)
  where
    stands : StandsAt xs q (bad.stands.0)
    stands = (bad.stands.2, λ d. ap (λ e. e.0) (get_or_default xs bad.stands.0 d bad.stands.1 bad.stands.2 ∙ bad.stands.3) ∙ bad.stands.4)

    here : (get_or xs bad.stands.0 bad.stands.1).0 ≡ q
    here = stands.1 bad.stands.1

    why : bad.stands.0 < i → (IsClean q → ⊥) ⊎ (StandsTwice xs q ⊎ Any (λ e. IsBelow q e.0) xs) → IsUpTo path q
    why lt (inl not_clean) = let P : List ℕ → Type 0 = λ p. IsClean p in absurd (not_clean (subst P here (clean bad.stands.0 bad.stands.1 lt)))
    why lt (inr (inl twice)) = twin (places_from_twice xs q twice)
      where
        twin : TwoPlaces xs q → IsUpTo path q
        twin t = elim (cases_lt t.left i) as (λ _. IsUpTo path q) [ inl before ↦ absurd (no_common_path _ _ q (t.first.1 bad.stands.1) (t.second.1 bad.stands.1) (ordered t.left t.right bad.stands.1 before t.apart t.second.0)) | inr after ↦ up_to_later xs i t.left path q at t.first sorted after ]
    why lt (inr (inr over)) = below (cases_lt bad.stands.0 over.0)
      where
        under : IsBelow q (get_or xs over.0 bad.stands.1).0
        under = let P : List ℕ → Type 0 = λ p. IsBelow q p in subst P (sym (ap (λ e. e.0) (get_or_default xs over.0 bad.stands.1 over.1 over.2 ∙ over.3))) over.4

        below : (bad.stands.0 < over.0) ⊎ (over.0 ≤ bad.stands.0) → IsUpTo path q
        below (inl l) = let P : List ℕ → Type 0 = λ p. IsBelow p (get_or xs over.0 bad.stands.1).0 in absurd ((ordered bad.stands.0 over.0 bad.stands.1 lt l over.2).not_above (subst P (sym here) under))
        below (inr g) = absurd (not_before_back (get_or xs over.0 bad.stands.1).0 q (up_to_later xs over.0 bad.stands.0 (get_or xs over.0 bad.stands.1).0 q (over.2, λ d. ap (λ e. e.0) (get_or_default xs over.0 d bad.stands.1 over.2)) stands sorted g) (before_below q (get_or xs over.0 bad.stands.1).0 under))

    by : (bad.stands.0 < i) ⊎ (i ≤ bad.stands.0) → IsUpTo path q
    by (inl lt) = why lt bad.bad
    by (inr ge) = up_to_later xs i bad.stands.0 path q at stands sorted ge

first_bad_at : (xs : List (List ℕ × Entry)) (i : ℕ) (path : List ℕ) (e : List ℕ × Entry) → i < length xs → e ≡ get_or xs i e → path ≡ e.0 → IsSortedByPath xs → CleanBefore xs i → OrderedBefore xs i → (IsClean path → ⊥) ⊎ (StandsTwice xs path ⊎ Any (λ x. IsBelow path x.0) xs) → (d : List ℕ × Entry) → IsFirstBadPath xs (get_or xs i d).0
first_bad_at xs i path e lt is same sorted clean ordered why d =
    let P : List ℕ → Type 0 = λ p. IsFirstBadPath xs p in
    subst P (same ∙ ap (λ x. x.0) (get_or_read xs i e lt is d)) (record {
      bad = record { stands = (i, e, lt, sym is, sym same); bad = why };
      first = first_bad xs i path (lt, λ f. sym (same ∙ ap (λ x. x.0) (get_or_read xs i e lt is f))) sorted clean ordered;
    })

-- a place before which all is well, with a path that isn't clean
pub bad_from_unclean : (xs : List (List ℕ × Entry)) (i : ℕ) (path : List ℕ) (e : List ℕ × Entry) → i < length xs → e ≡ get_or xs i e → path ≡ e.0 → IsSortedByPath xs → CleanBefore xs i → OrderedBefore xs i → (IsClean path → ⊥) → (d : List ℕ × Entry) → IsFirstBadPath xs (get_or xs i d).0
bad_from_unclean xs i path e lt is same sorted clean ordered unclean d =
    first_bad_at xs i path e lt is same sorted clean ordered (inl unclean) d

covered_behind : (xs : List (List ℕ × Entry)) (i : ℕ) (path : List ℕ) → StandsAt xs path i → Any (λ x. IsAtOrBelow path x.0) (take (length xs - (i + 1)) (drop (i + 1) xs)) → StandsTwice xs path ⊎ Any (λ x. IsBelow path x.0) xs
covered_behind xs i path at any = by any.4
  where
    whole : take (length xs - (i + 1)) (drop (i + 1) xs) ≡ drop (i + 1) xs
    whole = take_all (length xs - (i + 1)) (drop (i + 1) xs) (omega (arith, length-drop (i + 1) xs))

    within : i + 1 + any.0 < length xs
    within = omega (arith, any.2, ap length whole, length-drop (i + 1) xs)

    element : (d : List ℕ × Entry) → get_or xs (i + 1 + any.0) d ≡ any.1
    element d = get_or_default xs (i + 1 + any.0) d any.1 within ∙ sym (get_or-drop (i + 1) xs any.0 any.1) ∙ sym (ap (λ l. get_or l any.0 any.1) whole) ∙ any.3

    by : IsAtOrBelow path any.1.0 → StandsTwice xs path ⊎ Any (λ x. IsBelow path x.0) xs
    by (inl e) = inl (twice_from_places xs path i (i + 1 + any.0) (omega arith) at (within, λ d. ap (λ x. x.0) (element d) ∙ e))
    by (inr b) = inr (i + 1 + any.0, any.1, within, element any.1, b)

-- or with a path that another entry behind it has, or lies below
pub bad_from_covered : (xs : List (List ℕ × Entry)) (i : ℕ) (path : List ℕ) (e : List ℕ × Entry) → i < length xs → e ≡ get_or xs i e → path ≡ e.0 → IsSortedByPath xs → CleanBefore xs i → OrderedBefore xs i → Any (λ x. IsAtOrBelow path x.0) (take (length xs - (i + 1)) (drop (i + 1) xs)) → (d : List ℕ × Entry) → IsFirstBadPath xs (get_or xs i d).0
bad_from_covered xs i path e lt is same sorted clean ordered any d =
    first_bad_at xs i path e lt is same sorted clean ordered (inr (covered_behind xs i path (lt, λ f. sym (same ∙ ap (λ x. x.0) (get_or_read xs i e lt is f))) any)) d

-- ---- a list in another order

pub any_permuted : (P : List ℕ × Entry → Type 0) (xs ys : List (List ℕ × Entry)) → IsPermutation xs ys → Any P xs → Any P ys
any_permuted P xs ys perm any =
    let in' = Contains-permutation xs ys any.1 perm (any.0, any.2, any.3) in
    (in'.0, any.1, in'.1, in'.2, any.4)

pub bad_permuted : (xs ys : List (List ℕ × Entry)) (q : List ℕ) → IsPermutation xs ys → IsBadPath xs q → IsBadPath ys q
bad_permuted xs ys q perm bad = record { stands = any_permuted (λ e. e.0 ≡ q) xs ys perm bad.stands; bad = by bad.bad }
  where
    by : (IsClean q → ⊥) ⊎ (StandsTwice xs q ⊎ Any (λ e. IsBelow q e.0) xs) → (IsClean q → ⊥) ⊎ (StandsTwice ys q ⊎ Any (λ e. IsBelow q e.0) ys)
    by (inl unclean) = inl unclean
    by (inr (inl twice)) = inr (inl (omega (arith, sum_by-IsPermutation (λ e. cond {A = ℕ} (bytes_eq e.0 q) 1 0) xs ys perm)))
    by (inr (inr over)) = inr (inr (any_permuted (λ e. IsBelow q e.0) xs ys perm over))

-- the first bad path of a list is that of the list in any order
pub first_bad_permuted : (xs ys : List (List ℕ × Entry)) (q : List ℕ) → IsPermutation xs ys → IsFirstBadPath ys q → IsFirstBadPath xs q
first_bad_permuted xs ys q perm first = record {
  bad = bad_permuted ys xs q (IsPermutation-sym xs ys perm) first.bad;
  first = λ p bad. first.first p (bad_permuted xs ys p perm bad);
}

-- a list that is sorted by its paths has them in order, also those that are further apart
pub sorted_pairs : (xs : List (List ℕ × Entry)) → IsSortedBy (λ a b. is_lt (slice_cmp nat_cmp a.0 b.0)) xs → IsSortedByPath xs
sorted_pairs xs up i j d lt within = sorted_far (λ a b. is_lt (slice_cmp nat_cmp a.0 b.0)) (ranks_by nat_list_cmp_total (λ e. e.0)) xs up i j d (omega arith) within

-- the path that is taken out at the first bad place is the first bad path of the list as it was
pub refused_path : (xs ys zs : List (List ℕ × Entry)) (i : ℕ) (e : List ℕ × Entry) → IsPermutation xs ys → zs ≡ ys → i < length zs → ((d : List ℕ × Entry) → IsFirstBadPath zs (get_or zs i d).0) → e ≡ get_or ys i e → IsFirstBadPath xs e.0
refused_path xs ys zs i e perm same lt first is =
    let P : List (List ℕ × Entry) → Type 0 = λ l. IsFirstBadPath l (get_or l i e).0 in
    let Q : List ℕ → Type 0 = λ p. IsFirstBadPath ys p in
    first_bad_permuted xs ys e.0 perm (subst Q (sym (ap (λ x. x.0) is)) (subst P same (first e)))

-- the greatest length and the sum of what is left of a list, one entry on
pub largest_step : (xs : List (List ℕ × Entry)) (i m : ℕ) (e : List ℕ × Entry) → i < length xs → e ≡ get_or xs i e → max m (largest_of (drop i xs)) ≡ largest_of xs → max (max (entry_length e.1) m) (largest_of (drop (i + 1) xs)) ≡ largest_of xs
largest_step xs i m e lt is so_far =
    let step : largest_of (drop i xs) ≡ max (entry_length e.1) (largest_of (drop (i + 1) xs)) = at_drop_more largest_of xs i e lt ∙ ap (λ x. max (entry_length x.1) (largest_of (drop (i + 1) xs))) (sym is) in
    omega (arith, step, so_far)

pub bytes_step : (xs : List (List ℕ × Entry)) (i m top : ℕ) (e : List ℕ × Entry) → i < length xs → e ≡ get_or xs i e → min (m + bytes_of (drop i xs)) top ≡ min (bytes_of xs) top → min (min (m + entry_length e.1) top + bytes_of (drop (i + 1) xs)) top ≡ min (bytes_of xs) top
bytes_step xs i m top e lt is so_far =
    let step : bytes_of (drop i xs) ≡ entry_length e.1 + bytes_of (drop (i + 1) xs) = ap bytes_of (drop_more xs i e lt) ∙ sum_by-cons (λ x. entry_length x.1) (get_or xs i e) (drop (i + 1) xs) ∙ ap (λ x. entry_length x.1 + bytes_of (drop (i + 1) xs)) (sym is) in
    omega (arith, step, so_far)

pub size_all : (xs : List (List ℕ × Entry)) (i m b : ℕ) → length xs ≤ i → max m (largest_of (drop i xs)) ≡ largest_of xs → b ≤ 2 ^ 64 - 1 → min (b + bytes_of (drop i xs)) (2 ^ 64 - 1) ≡ min (bytes_of xs) (2 ^ 64 - 1) → (m ≡ largest_of xs) × (b ≡ min (bytes_of xs) (2 ^ 64 - 1))
size_all xs i m b le largest fits bytes =
    let none : largest_of (drop i xs) ≡ 0 = at_drop_all largest_of xs i le in
    let no_bytes : bytes_of (drop i xs) ≡ 0 = at_drop_all bytes_of xs i le in
    (omega (arith, none, largest), omega (arith, no_bytes, bytes, fits))

-- what a search at a path's place reads
pub got : (xs ys zs : List (List ℕ × Entry)) (path : List ℕ) (i : ℕ) (e : List ℕ × Entry) → ys ≡ xs → xs ≡ zs → IsTree xs → StandsAt ys path i → e ≡ get_or xs i e → Some e.1 ≡ entry_at zs path
got xs ys zs path i e same view tree at is =
    let P : List (List ℕ × Entry) → Type 0 = λ l. StandsAt l path i in
    let Q : List (List ℕ × Entry) → Type 0 = λ l. Some e.1 ≡ entry_at l path in
    subst Q view (ap (λ x. Some x.1) is ∙ sym (at_place xs path i (ascending_from_tree xs tree) (subst P same at) e))

pub got_none : (xs ys zs : List (List ℕ × Entry)) (path : List ℕ) (i : ℕ) → ys ≡ xs → xs ≡ zs → IsGap ys path i → None ≡ entry_at zs path
got_none xs ys zs path i same view gap =
    let Q : List (List ℕ × Entry) → Type 0 = λ l. None ≡ entry_at l path in
    subst Q (same ∙ view) (sym (at_gap ys path i gap))

pub ascending_at : (xs ys : List (List ℕ × Entry)) → ys ≡ xs → IsTree xs → IsAscending ys
ascending_at xs ys same tree = let P : List (List ℕ × Entry) → Type 0 = λ l. IsAscending l in subst P (sym same) (ascending_from_tree xs tree)
