-- What an edit of a tree's entries leaves.
use Rattle.std.proofs.Common.{◌≡◌, ◌<◌, ◌≤◌, ◌+◌, ◌-◌, ◌∙◌, ◌⊎◌, inl, inr, sym, ap, subst, refl, ℕ, zero, suc, List, [], ◌∷◌, ◌++◌, length, drop, take, set, All, AllPairs, arith, get_or, length-drop, Bool, true, false, Option, Some, None, get_or-set_same, get_or-set_other, length-set}
use Rattle.std.specs.Prelude.{IsSome, insert, remove, map}
use Rattle.std.specs.Str.{bytes_eq}
use Rattle.std.proofs.lemmas.Bool.{cases_lt, cases_eq, cond-true, cond-false}
use Rattle.std.proofs.lemmas.List.{get_or-drop, get_or-take, get_or_default, get_or-map, length-map, length-take, take_rest, map_more}
use Rattle.std.proofs.lemmas.List.Edits.{get_or-insert_at, get_or-remove_below, get_or-remove_above, length-insert, length-remove}
use Rattle.std.proofs.lemmas.List.Elements.{All-append, All-cons, All-take, All-drop}
use Rattle.std.proofs.lemmas.List.Kept.{AllPairs-cons}
use Rattle.std.proofs.lemmas.List.Quantifiers.{all_pairs_remove}
use Rattle.std.proofs.lemmas.Slice.Eq.{bytes_eq-Decides}
use borrow.Author.Count.{below_more}
use Rattle.tree_model.specs.declared.entry.Entry.{Entry}
use Rattle.tree_model.specs.declared.entry.Entry.TheVariants.{Link}
use Rattle.tree_model.specs.Path.{IsClean, IsBefore, IsUpTo, BeginsWith}
use Rattle.tree_model.specs.Tree.{Precedes, IsTree, IsAscending, IsGap, IsStart, IsListing, StandsAt, entry_at, put, HasRoom}
use Rattle.tree_model.proofs.OrderLemmas.{up_to_from_before, up_to_itself, begins_between, not_before_longer}
use Rattle.tree_model.proofs.TreeLemmas.{at_cons_same, at_cons_other, at_place, at_gap, place_held, ascending_from_tree}

-- a map that holds x at a path, and else what another holds
pub put_is : (new old : List (List ℕ × Entry)) (p : List ℕ) (x : Option Entry) → entry_at new p ≡ x → ((q : List ℕ) → (p ≡ q → ⊥) → entry_at new q ≡ entry_at old q) → entry_at new ≡ put (entry_at old) p x
put_is new old p x here others = λ i q. at q (bytes_eq p q) refl i
  where
    at : (q : List ℕ) (t : Bool) → bytes_eq p q ≡ t → entry_at new q ≡ put (entry_at old) p x q
    at q true e = sym (ap (entry_at new) ((bytes_eq-Decides p q).0 e)) ∙ here ∙ sym (cond-true (bytes_eq p q) x (entry_at old q) e)
    at q false e = others q (λ h. (let t = (bytes_eq-Decides p q).1 h in cc)) ∙ sym (cond-false (bytes_eq p q) x (entry_at old q) e)

-- what stands behind the same entry
at_cons_both : (x : List ℕ × Entry) (xs ys : List (List ℕ × Entry)) (q : List ℕ) → entry_at xs q ≡ entry_at ys q → entry_at (x ∷ xs) q ≡ entry_at (x ∷ ys) q
at_cons_both x xs ys q same = by (bytes_eq x.0 q) refl
  where
    by : (t : Bool) → bytes_eq x.0 q ≡ t → entry_at (x ∷ xs) q ≡ entry_at (x ∷ ys) q
    by true e = let h = (bytes_eq-Decides x.0 q).0 e in at_cons_same x xs q h ∙ sym (at_cons_same x ys q h)
    by false e = let h : x.0 ≡ q → ⊥ = λ h. (let t = (bytes_eq-Decides x.0 q).1 h in cc) in at_cons_other x xs q h ∙ same ∙ sym (at_cons_other x ys q h)

pub at_insert_other : (xs : List (List ℕ × Entry)) (i : ℕ) (y : List ℕ × Entry) (q : List ℕ) → (y.0 ≡ q → ⊥) → entry_at (insert xs i y) q ≡ entry_at xs q
at_insert_other [] zero y q other = at_cons_other y [] q other
at_insert_other [] (suc i) y q other = at_cons_other y [] q other
at_insert_other (x ∷ xs) zero y q other = at_cons_other y (x ∷ xs) q other
at_insert_other (x ∷ xs) (suc i) y q other = at_cons_both x (insert xs i y) xs q (at_insert_other xs i y q other)

pub at_set_other : (xs : List (List ℕ × Entry)) (i : ℕ) (y : List ℕ × Entry) (q : List ℕ) → (y.0 ≡ q → ⊥) → ((d : List ℕ × Entry) → i < length xs → (get_or xs i d).0 ≡ q → ⊥) → entry_at (set xs i y) q ≡ entry_at xs q
at_set_other [] i y q other was = refl
at_set_other (x ∷ xs) zero y q other was = at_cons_other y xs q other ∙ sym (at_cons_other x xs q (was x (omega arith)))
at_set_other (x ∷ xs) (suc i) y q other was = at_cons_both x (set xs i y) xs q (at_set_other xs i y q other (λ d lt. was d (omega arith)))

pub at_remove_other : (xs : List (List ℕ × Entry)) (i : ℕ) (q : List ℕ) → ((d : List ℕ × Entry) → i < length xs → (get_or xs i d).0 ≡ q → ⊥) → entry_at (remove xs i) q ≡ entry_at xs q
at_remove_other [] zero q was = refl
at_remove_other [] (suc i) q was = refl
at_remove_other (x ∷ xs) zero q was = sym (at_cons_other x xs q (was x (omega arith)))
at_remove_other (x ∷ xs) (suc i) q was = at_cons_both x (remove xs i) xs q (at_remove_other xs i q (λ d lt. was d (omega arith)))

-- ---- edits of a tree are trees

pub all_pairs_tail : (R : List ℕ × Entry → List ℕ × Entry → Type 0) (x : List ℕ × Entry) (xs : List (List ℕ × Entry)) → AllPairs R (x ∷ xs) → AllPairs R xs
all_pairs_tail R x xs all i j d lt within = all (suc i) (suc j) d (omega arith) (omega arith)

pub all_pairs_head : (R : List ℕ × Entry → List ℕ × Entry → Type 0) (x : List ℕ × Entry) (xs : List (List ℕ × Entry)) → AllPairs R (x ∷ xs) → All (R x) xs
all_pairs_head R x xs all k d lt = all 0 (suc k) d (omega arith) (omega arith)

all_insert : (P : List ℕ × Entry → Type 0) (xs : List (List ℕ × Entry)) (i : ℕ) (y : List ℕ × Entry) → All P xs → P y → All P (insert xs i y)
all_insert P xs i y all here = All-append P (take i xs) (y ∷ drop i xs) (All-take P i xs all) (All-cons P y (drop i xs) here (All-drop P i xs all))

all_pairs_insert : (R : List ℕ × Entry → List ℕ × Entry → Type 0) (xs : List (List ℕ × Entry)) (i : ℕ) (y : List ℕ × Entry) → i ≤ length xs → AllPairs R xs → ((k : ℕ) (d : List ℕ × Entry) → k < i → R (get_or xs k d) y) → ((k : ℕ) (d : List ℕ × Entry) → i ≤ k → k < length xs → R y (get_or xs k d)) → AllPairs R (insert xs i y)
all_pairs_insert R xs zero y le all before after = AllPairs-cons R y xs (λ k d lt. after k d (omega arith) lt) all
all_pairs_insert R [] (suc i) y le all before after = absurd (omega arith)
all_pairs_insert R (x ∷ xs) (suc i) y le all before after =
    AllPairs-cons R x (insert xs i y)
    (all_insert (R x) xs i y (all_pairs_head R x xs all) (before 0 x (omega arith)))
    (all_pairs_insert R xs i y (omega arith) (all_pairs_tail R x xs all) (λ k d lt. before (suc k) d (omega arith)) (λ k d le2 lt. after (suc k) d (omega arith) (omega arith)))

pub held_at : (xs : List (List ℕ × Entry)) (k : ℕ) (d : List ℕ × Entry) → IsTree xs → k < length xs → IsSome (entry_at xs (get_or xs k d).0)
held_at xs k d tree lt =
    let P : Option Entry → Type 0 = λ o. IsSome o in
    subst P (sym (at_place xs (get_or xs k d).0 k (ascending_from_tree xs tree) (lt, λ e. ap (λ x. x.0) (get_or_default xs k e d lt)) d)) refl

pub tree_insert : (xs : List (List ℕ × Entry)) (i : ℕ) (p : List ℕ) (e : Entry) → IsTree xs → IsClean p → HasRoom (entry_at xs) p → IsGap xs p i → IsTree (insert xs i (p, e))
tree_insert xs i p e tree clean room gap = record {
  clean = all_insert (λ x. IsClean x.0) xs i (p, e) tree.clean clean;
  ordered = all_pairs_insert (λ a b. Precedes a.0 b.0) xs i (p, e) gap.within tree.ordered
      (λ k d lt. let within : k < length xs = omega (arith, gap.within) in record {
        before = gap.before k d lt;
        not_above = λ h. room.above (get_or xs k d).0 (held_at xs k d tree within) h;
        not_below = λ h. room.below (get_or xs k d).0 (held_at xs k d tree within) h;
      })
      (λ k d le lt. record {
        before = gap.after k d le lt;
        not_above = λ h. room.below (get_or xs k d).0 (held_at xs k d tree lt) h;
        not_below = λ h. room.above (get_or xs k d).0 (held_at xs k d tree lt) h;
      });
}

pub put_insert : (xs : List (List ℕ × Entry)) (i : ℕ) (p : List ℕ) (e : Entry) → IsTree (insert xs i (p, e)) → IsGap xs p i → entry_at (insert xs i (p, e)) ≡ put (entry_at xs) p (Some e)
put_insert xs i p e tree gap =
    put_is (insert xs i (p, e)) xs p (Some e)
    (at_place (insert xs i (p, e)) p i (ascending_from_tree (insert xs i (p, e)) tree) (omega (arith, length-insert xs i (p, e) gap.within, gap.within), λ d. ap (λ x. x.0) (get_or-insert_at xs i (p, e) d gap.within)) (p, e)
    ∙ ap (λ x. Some x.1) (get_or-insert_at xs i (p, e) (p, e) gap.within))
    (λ q other. at_insert_other xs i (p, e) q other)

same_path_at : (xs : List (List ℕ × Entry)) (i : ℕ) (y : List ℕ × Entry) → ((d : List ℕ × Entry) → (get_or xs i d).0 ≡ y.0) → (k : ℕ) (d : List ℕ × Entry) → k < length xs → (get_or (set xs i y) k d).0 ≡ (get_or xs k d).0
same_path_at xs i y same k d lt = by (cases_eq k i)
  where
    by : (k ≡ i) ⊎ (k ≡ i → ⊥) → (get_or (set xs i y) k d).0 ≡ (get_or xs k d).0
    by (inl e) =
        let P : ℕ → Type 0 = λ m. m < length xs → (get_or (set xs i y) m d).0 ≡ (get_or xs m d).0 in
        subst P (sym e) (λ l. ap (λ x. x.0) (get_or-set_same xs i y d l) ∙ sym (same d)) lt
    by (inr ne) = ap (λ x. x.0) (get_or-set_other xs i k y d ne)

-- an entry in place of another at the same path
pub tree_set : (xs : List (List ℕ × Entry)) (i : ℕ) (y : List ℕ × Entry) → IsTree xs → ((d : List ℕ × Entry) → (get_or xs i d).0 ≡ y.0) → IsTree (set xs i y)
tree_set xs i y tree same = record {
  clean = λ k d lt.
      let in' : k < length xs = omega (arith, length-set xs i y) in
      let P : List ℕ → Type 0 = λ p. IsClean p in subst P (sym (same_path_at xs i y same k d in')) (tree.clean k d in');
  ordered = λ k j d kj lt.
      let in' : j < length xs = omega (arith, length-set xs i y) in
      let P : List ℕ → Type 0 = λ p. Precedes p (get_or (set xs i y) j d).0 in
      let Q : List ℕ → Type 0 = λ p. Precedes (get_or xs k d).0 p in
      subst P (sym (same_path_at xs i y same k d (omega arith))) (subst Q (sym (same_path_at xs i y same j d in')) (tree.ordered k j d kj in'));
}

pub put_set : (xs : List (List ℕ × Entry)) (i : ℕ) (p : List ℕ) (y : List ℕ × Entry) → IsTree xs → StandsAt xs p i → y.0 ≡ p → entry_at (set xs i y) ≡ put (entry_at xs) p (Some y.1)
put_set xs i p y tree at path =
    put_is (set xs i y) xs p (Some y.1)
    (at_place (set xs i y) p i (ascending_from_tree (set xs i y) (tree_set xs i y tree (λ d. at.1 d ∙ sym path))) (omega (arith, at.0, length-set xs i y), λ d. ap (λ x. x.0) (get_or-set_same xs i y d at.0) ∙ path) y
    ∙ ap (λ x. Some x.1) (get_or-set_same xs i y y at.0))
    (λ q other. at_set_other xs i y q (λ h. other (sym path ∙ h)) (λ d lt h. other (sym (at.1 d) ∙ h)))

pub tree_remove : (xs : List (List ℕ × Entry)) (i : ℕ) → IsTree xs → i < length xs → IsTree (remove xs i)
tree_remove xs i tree lt = record {
  clean = All-append (λ x. IsClean x.0) (take i xs) (drop (suc i) xs) (All-take (λ x. IsClean x.0) i xs tree.clean) (All-drop (λ x. IsClean x.0) (suc i) xs tree.clean);
  ordered = all_pairs_remove (λ a b. Precedes a.0 b.0) xs i lt tree.ordered;
}

pub put_remove : (xs : List (List ℕ × Entry)) (i : ℕ) (p : List ℕ) → IsTree xs → StandsAt xs p i → entry_at (remove xs i) ≡ put (entry_at xs) p None
put_remove xs i p tree at =
    put_is (remove xs i) xs p None
    (at_gap (remove xs i) p i (record {
      within = omega (arith, length-remove xs i at.0, at.0);
      before = λ k d lt.
          let P : List ℕ → Type 0 = λ z. IsBefore z p in
          let Q : List ℕ → Type 0 = λ z. IsBefore (get_or xs k d).0 z in
          subst P (sym (ap (λ x. x.0) (get_or-remove_below xs i d k lt at.0))) (subst Q (at.1 d) (tree.ordered k i d lt at.0).before);
      after = λ k d le lt.
          let in' : k + 1 < length xs = omega (arith, length-remove xs i at.0) in
          let P : List ℕ → Type 0 = λ z. IsBefore p z in
          let Q : List ℕ → Type 0 = λ z. IsBefore z (get_or xs (k + 1) d).0 in
          subst P (sym (ap (λ x. x.0) (get_or-remove_above xs i d k le at.0))) (subst Q (at.1 d) (tree.ordered i (k + 1) d (omega arith) in').before);
    }))
    (λ q other. at_remove_other xs i q (λ d lt h. other (sym (at.1 d) ∙ h)))

pub put_nothing : (xs : List (List ℕ × Entry)) (i : ℕ) (p : List ℕ) → IsGap xs p i → entry_at xs ≡ put (entry_at xs) p None
put_nothing xs i p gap = put_is xs xs p None (at_gap xs p i gap) (λ q other. refl)

pub removed_is : (xs : List (List ℕ × Entry)) (i : ℕ) (p : List ℕ) (e : List ℕ × Entry) → IsTree xs → StandsAt xs p i → e ≡ get_or xs i e → Some e.1 ≡ entry_at xs p
removed_is xs i p e tree at is = ap (λ x. Some x.1) is ∙ sym (at_place xs p i (ascending_from_tree xs tree) at e)

-- ---- a listing

pub start_found : (xs : List (List ℕ × Entry)) (prefix : List ℕ) (i : ℕ) → IsAscending xs → StandsAt xs prefix i → IsStart xs prefix i
start_found xs prefix i asc at = record {
  within = omega (arith, at.0);
  before = λ k d lt. let P : List ℕ → Type 0 = λ z. IsBefore (get_or xs k d).0 z in subst P (at.1 d) (asc k i d lt at.0);
  after = λ k d le lt. by k d lt (cases_lt i k) le;
}
  where
    by : (k : ℕ) (d : List ℕ × Entry) → k < length xs → (i < k) ⊎ (k ≤ i) → i ≤ k → IsUpTo prefix (get_or xs k d).0
    by k d lt (inl l) le = let P : List ℕ → Type 0 = λ z. IsUpTo z (get_or xs k d).0 in subst P (at.1 d) (up_to_from_before (get_or xs i d).0 (get_or xs k d).0 (asc i k d l lt))
    by k d lt (inr g) le =
        let m : i ≡ k = omega arith in
        let P : List ℕ → Type 0 = λ z. IsUpTo prefix z in
        subst P (sym (at.1 d) ∙ ap (λ n. (get_or xs n d).0) m) (up_to_itself prefix)

pub start_gap : (xs : List (List ℕ × Entry)) (prefix : List ℕ) (i : ℕ) → IsGap xs prefix i → IsStart xs prefix i
start_gap xs prefix i gap = record {
  within = gap.within;
  before = gap.before;
  after = λ k d le lt. up_to_from_before prefix (get_or xs k d).0 (gap.after k d le lt);
}

-- n entries from the start on begin with the prefix, and the next one, if there is one, does not
pub record IsRun (xs : List (List ℕ × Entry)) (prefix : List ℕ) (start n : ℕ) : Type 0 where
  pub within : start + n ≤ length xs
  pub begin : (k : ℕ) (d : List ℕ × Entry) → k < n → BeginsWith prefix (get_or xs (start + k) d).0
  pub ends : (d : List ℕ × Entry) → start + n < length xs → BeginsWith prefix (get_or xs (start + n) d).0 → ⊥

abbrev paths_of : List (List ℕ × Entry) → ℕ → ℕ → List (List ℕ)
paths_of xs start n = map (λ e. e.0) (take n (drop start xs))

length_paths : (xs : List (List ℕ × Entry)) (start n : ℕ) → start + n ≤ length xs → length (paths_of xs start n) ≡ n
length_paths xs start n le = length-map (take n (drop start xs)) (λ e. e.0) ∙ omega (arith, length-take n (drop start xs), length-drop start xs)

path_at : (xs : List (List ℕ × Entry)) (start n k : ℕ) (d : List ℕ) (e : List ℕ × Entry) → start + n ≤ length xs → k < n → get_or (paths_of xs start n) k d ≡ (get_or xs (start + k) e).0
path_at xs start n k d e le lt =
    get_or-map (λ x. x.0) (take n (drop start xs)) k e d (omega (arith, length-take n (drop start xs), length-drop start xs))
    ∙ ap (λ x. x.0) (get_or-take n (drop start xs) k e lt ∙ get_or-drop start xs k e)

-- no entry that stands before the start, or behind the end, begins with the prefix
run_has : (xs : List (List ℕ × Entry)) (prefix q : List ℕ) (start n j : ℕ) → IsTree xs → IsStart xs prefix start → IsRun xs prefix start n → StandsAt xs q j → BeginsWith prefix q → (start ≤ j) × (j < start + n)
run_has xs prefix q start n j tree from run at begins = (by (cases_lt j start), up (cases_lt j (start + n)))
  where
    by : (j < start) ⊎ (start ≤ j) → start ≤ j
    by (inl lt) = let P : List ℕ → Type 0 = λ z. IsBefore z prefix in absurd (not_before_longer q prefix begins.0 (subst P (at.1 ([], Link [])) (from.before j ([], Link []) lt)) begins.1)
    by (inr le) = le

    up : (j < start + n) ⊎ (start + n ≤ j) → j < start + n
    up (inl lt) = lt
    up (inr le) = absurd (run.ends ([], Link []) within (begins_between prefix ((get_or xs (start + n) ([], Link [])).0) q begins.0 (from.after (start + n) ([], Link []) (omega arith) within) (later (cases_lt (start + n) j)) begins.1))
      where
        within : start + n < length xs
        within = omega (arith, at.0)

        later : (start + n < j) ⊎ (j ≤ start + n) → IsUpTo ((get_or xs (start + n) ([], Link [])).0) q
        later (inl l) = let P : List ℕ → Type 0 = λ z. IsUpTo ((get_or xs (start + n) ([], Link [])).0) z in subst P (at.1 ([], Link [])) (up_to_from_before ((get_or xs (start + n) ([], Link [])).0) ((get_or xs j ([], Link [])).0) ((tree.ordered (start + n) j ([], Link []) l at.0).before))
        later (inr g) =
            let m : start + n ≡ j = omega arith in
            let P : List ℕ → Type 0 = λ z. IsUpTo ((get_or xs (start + n) ([], Link [])).0) z in
            subst P (ap (λ k. (get_or xs k ([], Link [])).0) m ∙ at.1 ([], Link [])) (up_to_itself ((get_or xs (start + n) ([], Link [])).0))

-- their paths are a listing
pub listing_from_run : (xs : List (List ℕ × Entry)) (prefix : List ℕ) (start n : ℕ) → IsTree xs → IsStart xs prefix start → IsRun xs prefix start n → IsListing prefix (entry_at xs) (map (λ e. e.0) (take n (drop start xs)))
listing_from_run xs prefix start n tree from run = record {
  ascending = λ i j d lt within.
      let j_lt : j < n = omega (arith, length_paths xs start n run.within) in
      let P : List ℕ → Type 0 = λ z. IsBefore z (get_or (paths_of xs start n) j d) in
      let Q : List ℕ → Type 0 = λ z. IsBefore (get_or xs (start + i) ([], Link [])).0 z in
      subst P (sym (path_at xs start n i d ([], Link []) run.within (omega arith)))
      (subst Q (sym (path_at xs start n j d ([], Link []) run.within j_lt)) (tree.ordered (start + i) (start + j) ([], Link []) (omega arith) (omega (arith, run.within))).before);
  are_held = λ q in'.
      let k_lt : in'.0 < n = omega (arith, in'.1, length_paths xs start n run.within) in
      let is : (get_or xs (start + in'.0) ([], Link [])).0 ≡ q = sym (path_at xs start n in'.0 q ([], Link []) run.within k_lt) ∙ in'.2 in
      let P : List ℕ → Type 0 = λ z. BeginsWith prefix z in
      let Q : List ℕ → Type 0 = λ z. IsSome (entry_at xs z) in
      (subst P is (run.begin in'.0 ([], Link []) k_lt), subst Q is (held_at xs (start + in'.0) ([], Link []) tree (omega (arith, run.within))));
  all = λ q begins held.
      let at = place_held xs q held in
      let has = run_has xs prefix q start n at.0 tree from run at.1 begins in
      let k_lt : at.0 - start < n = omega (arith, has.0, has.1) in
      let m : start + (at.0 - start) ≡ at.0 = omega (arith, has.0) in (
        at.0 - start,
        omega (arith, k_lt, length_paths xs start n run.within),
        path_at xs start n (at.0 - start) q ([], Link []) run.within k_lt ∙ ap (λ k. (get_or xs k ([], Link [])).0) m ∙ at.1.1 ([], Link []),
      );
}

pub stands_same : (xs ys : List (List ℕ × Entry)) (p : List ℕ) (i : ℕ) → ys ≡ xs → StandsAt ys p i → StandsAt xs p i
stands_same xs ys p i same at = let P : List (List ℕ × Entry) → Type 0 = λ l. StandsAt l p i in subst P same at

pub gap_same : (xs ys : List (List ℕ × Entry)) (p : List ℕ) (i : ℕ) → ys ≡ xs → IsGap ys p i → IsGap xs p i
gap_same xs ys p i same gap = let P : List (List ℕ × Entry) → Type 0 = λ l. IsGap l p i in subst P same gap

pub tree_same : (xs ys : List (List ℕ × Entry)) → ys ≡ xs → IsTree xs → IsTree ys
tree_same xs ys same tree = let P : List (List ℕ × Entry) → Type 0 = λ l. IsTree l in subst P (sym same) tree

-- an element of what is left of a list from a start on, which `&xs[start..]` gives
later_at : (xs : List (List ℕ × Entry)) (start n : ℕ) (e d : List ℕ × Entry) → start ≤ length xs → n < length xs - start → e ≡ get_or (take (length xs - start) (drop start xs)) n e → e ≡ get_or xs (start + n) d
later_at xs start n e d le lt is =
    is ∙ ap (λ l. get_or l n e) (take_rest xs start) ∙ get_or-drop start xs n e ∙ get_or_default xs (start + n) e d (omega arith)

pub length_later : (xs : List (List ℕ × Entry)) (start : ℕ) → length (take (length xs - start) (drop start xs)) ≡ length xs - start
length_later xs start = ap length (take_rest xs start) ∙ length-drop start xs

-- one entry more of a run
pub begin_more : (xs : List (List ℕ × Entry)) (prefix path : List ℕ) (start n : ℕ) (e : List ℕ × Entry)
    → start ≤ length xs → n < length xs - start → e ≡ get_or (take (length xs - start) (drop start xs)) n e → path ≡ e.0 → BeginsWith prefix path
    → ((k : ℕ) (d : List ℕ × Entry) → k < n → BeginsWith prefix (get_or xs (start + k) d).0)
    → (k : ℕ) (d : List ℕ × Entry) → k < n + 1 → BeginsWith prefix (get_or xs (start + k) d).0
begin_more xs prefix path start n e le lt is same here below k d k_lt =
    below_more (λ m. BeginsWith prefix (get_or xs (start + m) d).0) n (λ m h. below m d h)
    (let P : List ℕ → Type 0 = λ p. BeginsWith prefix p in subst P (same ∙ ap (λ x. x.0) (later_at xs start n e d le lt is)) here) k k_lt

pub paths_more : (xs : List (List ℕ × Entry)) (start n : ℕ) (e : List ℕ × Entry) (old new : List (List ℕ)) (path : List ℕ) → start ≤ length xs → n < length xs - start → e ≡ get_or (take (length xs - start) (drop start xs)) n e → path ≡ e.0 → old ≡ map (λ x. x.0) (take n (drop start xs)) → new ≡ old ++ path ∷ [] → new ≡ map (λ x. x.0) (take (n + 1) (drop start xs))
paths_more xs start n e old new path le lt is same so_far pushed =
    pushed ∙ (λ i. so_far i ++ same i ∷ [])
    ∙ sym (map_more (λ x. x.0) (drop start xs) n e (omega (arith, length-drop start xs))
    ∙ ap (λ x. map (λ y. y.0) (take n (drop start xs)) ++ x.0 ∷ []) (get_or-drop start xs n e ∙ sym (later_at xs start n e e le lt is)))

pub run_stops : (xs : List (List ℕ × Entry)) (prefix path : List ℕ) (start n : ℕ) (e : List ℕ × Entry) → start ≤ length xs → n < length xs - start → e ≡ get_or (take (length xs - start) (drop start xs)) n e → path ≡ e.0 → (BeginsWith prefix path → ⊥) → ((k : ℕ) (d : List ℕ × Entry) → k < n → BeginsWith prefix (get_or xs (start + k) d).0) → IsRun xs prefix start n
run_stops xs prefix path start n e le lt is same other begin = record {
  within = omega arith;
  begin = begin;
  ends = λ d _ begins. let P : List ℕ → Type 0 = λ p. BeginsWith prefix p in other (subst P (sym (same ∙ ap (λ x. x.0) (later_at xs start n e d le lt is))) begins);
}

pub run_ends : (xs : List (List ℕ × Entry)) (prefix : List ℕ) (start n : ℕ) → start ≤ length xs → length xs - start ≤ n → n ≤ length xs - start → ((k : ℕ) (d : List ℕ × Entry) → k < n → BeginsWith prefix (get_or xs (start + k) d).0) → IsRun xs prefix start n
run_ends xs prefix start n le all some begin = record {
  within = omega arith;
  begin = begin;
  ends = λ d lt _. absurd (omega arith);
}

pub listing_same : (xs : List (List ℕ × Entry)) (prefix : List ℕ) (ps qs : List (List ℕ)) → ps ≡ qs → IsListing prefix (entry_at xs) qs → IsListing prefix (entry_at xs) ps
listing_same xs prefix ps qs same listing = let P : List (List ℕ) → Type 0 = λ l. IsListing prefix (entry_at xs) l in subst P (sym same) listing

pub read_path : (xs : List (List ℕ × Entry)) (p : List ℕ) (i : ℕ) (e : List ℕ × Entry) → StandsAt xs p i → e ≡ get_or xs i e → e.0 ≡ p
read_path xs p i e at is = ap (λ x. x.0) is ∙ at.1 e

-- a new entry in its gap
pub new_tree : (xs ys : List (List ℕ × Entry)) (i : ℕ) (p q : List ℕ) (e : Entry) → q ≡ p → ys ≡ insert xs i (q, e) → IsTree xs → IsClean p → HasRoom (entry_at xs) p → IsGap xs p i → IsTree ys
new_tree xs ys i p q e same is tree clean room gap = tree_same (insert xs i (p, e)) ys (is ∙ ap (λ z. insert xs i (z, e)) same) (tree_insert xs i p e tree clean room gap)

pub new_put : (xs ys : List (List ℕ × Entry)) (i : ℕ) (p q : List ℕ) (e : Entry) → q ≡ p → ys ≡ insert xs i (q, e) → IsTree xs → IsClean p → HasRoom (entry_at xs) p → IsGap xs p i → entry_at ys ≡ put (entry_at xs) p (Some e)
new_put xs ys i p q e same is tree clean room gap = ap entry_at (is ∙ ap (λ z. insert xs i (z, e)) same) ∙ put_insert xs i p e (tree_insert xs i p e tree clean room gap) gap
