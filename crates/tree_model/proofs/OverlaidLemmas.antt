-- The overlay and the pick as functions are those that the relations name.
use Rattle.std.proofs.Common.{◌≡◌, ◌∙◌, inl, inr, sym, ap, subst, refl, ℕ, zero, suc, List, [], ◌∷◌, ◌++◌, arith, get_or, All, Bool, true, false, Option, Some, None, append_assoc}
use Rattle.std.specs.Prelude.{IsPermutation, MatchBool, not, ◌||◌, ◌&&◌, filter, is_some}
use Rattle.std.specs.Ordering.{nat_cmp, is_lt}
use Rattle.std.specs.Str.{bytes_eq}
use Rattle.std.specs.declared.cmp.Ordering.{Ordering}
use Rattle.std.specs.declared.cmp.Ordering.TheVariants.{Less, Equal, Greater}
use Rattle.std.specs.Cmp.Lexicographic.{slice_cmp}
use Rattle.std.proofs.lemmas.List.{append-nil}
use Rattle.std.proofs.lemmas.List.Elements.{All-cons, All-head, All-tail}
use Rattle.std.proofs.lemmas.List.Kept.{AllPairs-cons}
use Rattle.std.proofs.lemmas.List.Sorted.{IsPermutation-refl, IsPermutation-trans, IsPermutation-cons, IsPermutation-append_comm, IsPermutation-append_left}
use Rattle.std.proofs.lemmas.Slice.Eq.{bytes_eq-Decides}
use Rattle.tree_model.specs.declared.entry.Entry.{Entry}
use Rattle.tree_model.specs.Path.{IsBelow, IsUpTo, IsBefore}
use Rattle.tree_model.specs.Tree.{IsTree, IsSortedByPath, entry_at}
use Rattle.tree_model.specs.Folder.{IsPick, entries_below, picked, rest_of}
use Rattle.tree_model.specs.Overlay.{Meets, IsFree, IsMet, IsOverlay, is_below, meet, is_free, in_place, all_in_place, overlaid}
use Rattle.tree_model.proofs.OrderLemmas.{up_to_from_before}
use Rattle.tree_model.proofs.EditLemmas.{all_pairs_head, all_pairs_tail}
use Rattle.tree_model.proofs.FolderLemmas.{here_placed, pick_inside, rest_of_is, rest_of_some}
use Rattle.tree_model.proofs.OverlayLemmas.{IsKept, Stays, Goes, overlay_is}
use Rattle.tree_model.proofs.MergeLemmas.{sorted_tree_list, up_to_trans}
use Rattle.tree_model.proofs.LawLemmas.{one_overlay, same_trees}

-- ---- what meets

says_below : (a b : List ℕ) → MatchBool (is_below a b) (IsBelow a b) (IsBelow a b → ⊥)
says_below a b = by (rest_of (a ++ 47 ∷ []) b) refl
  where
    by : (o : Option (List ℕ)) → rest_of (a ++ 47 ∷ []) b ≡ o → MatchBool (is_some (rest_of (a ++ 47 ∷ []) b)) (IsBelow a b) (IsBelow a b → ⊥)
    by (Some r) e = subst (λ (t : Bool). MatchBool t (IsBelow a b) (IsBelow a b → ⊥)) (sym (ap is_some e)) (r, rest_of_is (a ++ 47 ∷ []) b r e ∙ append_assoc a (47 ∷ []) r)
    by None e = subst (λ (t : Bool). MatchBool t (IsBelow a b) (IsBelow a b → ⊥)) (sym (ap is_some e)) (λ h. (let s : ◌≡◌ {A = Option (List ℕ)} (Some h.0) None = rest_of_some (a ++ 47 ∷ []) b h.0 (h.1 ∙ sym (append_assoc a (47 ∷ []) h.0)) ∙ e in cc))

says_meet : (a b : List ℕ) → MatchBool (meet a b) (Meets a b) (Meets a b → ⊥)
says_meet a b = by (bytes_eq b a) (is_below a b) (is_below b a) refl (says_below a b) (says_below b a)
  where
    by : (s t u : Bool) → bytes_eq b a ≡ s → MatchBool t (IsBelow a b) (IsBelow a b → ⊥) → MatchBool u (IsBelow b a) (IsBelow b a → ⊥) → MatchBool (bytes_eq b a || (t || u)) (Meets a b) (Meets a b → ⊥)
    by true t u e h g = subst (λ (s : Bool). MatchBool (s || (t || u)) (Meets a b) (Meets a b → ⊥)) (sym e) (inl (inl ((bytes_eq-Decides b a).0 e)))
    by false true u e h g = subst (λ (s : Bool). MatchBool (s || (true || u)) (Meets a b) (Meets a b → ⊥)) (sym e) (inl (inr h))
    by false false true e h g = subst (λ (s : Bool). MatchBool (s || (false || true)) (Meets a b) (Meets a b → ⊥)) (sym e) (inr g)
    by false false false e h g = subst (λ (s : Bool). MatchBool (s || (false || false)) (Meets a b) (Meets a b → ⊥)) (sym e) none
      where
        none : Meets a b → ⊥
        none (inl (inl same)) = let t = (bytes_eq-Decides b a).1 same in cc
        none (inl (inr k)) = h k
        none (inr k) = g k

says_free : (tree : List (List ℕ × Entry)) (path : List ℕ) → MatchBool (is_free tree path) (IsFree tree path) (IsMet tree path)
says_free [] path = λ k d lt m. absurd (omega arith)
says_free (x ∷ xs) path = by (meet path x.0) (is_free xs path) (says_meet path x.0) (says_free xs path)
  where
    by : (t u : Bool) → MatchBool t (Meets path x.0) (Meets path x.0 → ⊥) → MatchBool u (IsFree xs path) (IsMet xs path) → MatchBool (not t && u) (IsFree (x ∷ xs) path) (IsMet (x ∷ xs) path)
    by true u h g = (0, x, omega arith, refl, h)
    by false true h g = each
      where
        each : IsFree (x ∷ xs) path
        each zero d lt m = h m
        each (suc k) d lt m = g k d (omega arith) m
    by false false h g = (suc g.0, g.1, omega (arith, g.2), g.3, g.4)

-- ---- what stays

kept_filter : (P Q : List ℕ × Entry → Type 0) (p : List ℕ × Entry → Bool) → ((x : List ℕ × Entry) → MatchBool (p x) (P x) (Q x)) → (xs : List (List ℕ × Entry)) → IsKept P Q xs (filter p xs)
kept_filter P Q p says [] = refl
kept_filter P Q p says (x ∷ xs) = by (kept_filter P Q p says xs) (p x) refl (says x)
  where
    by : IsKept P Q xs (filter p xs) → (t : Bool) → p x ≡ t → MatchBool (p x) (P x) (Q x) → IsKept P Q (x ∷ xs) (filter p (x ∷ xs))
    by rest true e h = (filter p xs, rest, inl (subst (λ (t : Bool). MatchBool t (P x) (Q x)) e h, simp e))
    by rest false e h = (filter p xs, rest, inr (subst (λ (t : Bool). MatchBool t (P x) (Q x)) e h, simp e))

-- ---- each at its place

place_permutes : (e : List ℕ × Entry) (xs : List (List ℕ × Entry)) → IsPermutation (e ∷ xs) (in_place e xs)
place_permutes e [] = IsPermutation-refl (e ∷ [])
place_permutes e (x ∷ xs) = by (place_permutes e xs) (is_lt (slice_cmp nat_cmp e.0 x.0)) refl
  where
    by : IsPermutation (e ∷ xs) (in_place e xs) → (t : Bool) → is_lt (slice_cmp nat_cmp e.0 x.0) ≡ t → IsPermutation (e ∷ (x ∷ xs)) (in_place e (x ∷ xs))
    by rest true f = simp f (IsPermutation-refl (e ∷ (x ∷ xs)))
    by rest false f = simp f (IsPermutation-trans (e ∷ (x ∷ xs)) (x ∷ (e ∷ xs)) (x ∷ in_place e xs)
        (IsPermutation-append_left xs (e ∷ (x ∷ [])) (x ∷ (e ∷ [])) (IsPermutation-append_comm (e ∷ []) (x ∷ [])))
        (IsPermutation-cons x (e ∷ xs) (in_place e xs) rest))

all_placed : (P : List ℕ × Entry → Type 0) (e : List ℕ × Entry) (xs : List (List ℕ × Entry)) → P e → All P xs → All P (in_place e xs)
all_placed P e [] here all = All-cons P e [] here all
all_placed P e (x ∷ xs) here all = by (all_placed P e xs here (All-tail P x xs all)) (is_lt (slice_cmp nat_cmp e.0 x.0)) refl
  where
    by : All P (in_place e xs) → (t : Bool) → is_lt (slice_cmp nat_cmp e.0 x.0) ≡ t → All P (in_place e (x ∷ xs))
    by rest true f = simp f (All-cons P e (x ∷ xs) here all)
    by rest false f = simp f (All-cons P x (in_place e xs) (All-head P x xs all) rest)

before_from_test : (a b : List ℕ) → is_lt (slice_cmp nat_cmp a b) ≡ true → IsBefore a b
before_from_test a b e = by (slice_cmp nat_cmp a b) refl e
  where
    by : (o : Ordering) → slice_cmp nat_cmp a b ≡ o → is_lt o ≡ true → IsBefore a b
    by Less f g = f
    by Equal f g = absurd (cc)
    by Greater f g = absurd (cc)

place_sorts : (e : List ℕ × Entry) (xs : List (List ℕ × Entry)) → IsSortedByPath xs → IsSortedByPath (in_place e xs)
place_sorts e [] sorted = λ i j d lt within. absurd (omega arith)
place_sorts e (x ∷ xs) sorted = by (place_sorts e xs (all_pairs_tail (λ a b. IsUpTo a.0 b.0) x xs sorted)) (is_lt (slice_cmp nat_cmp e.0 x.0)) refl
  where
    by : IsSortedByPath (in_place e xs) → (t : Bool) → is_lt (slice_cmp nat_cmp e.0 x.0) ≡ t → IsSortedByPath (in_place e (x ∷ xs))
    by rest true f =
        let up : IsUpTo e.0 x.0 = up_to_from_before e.0 x.0 (before_from_test e.0 x.0 f) in
        simp f (AllPairs-cons (λ a b. IsUpTo a.0 b.0) e (x ∷ xs)
        (All-cons (λ b. IsUpTo e.0 b.0) x xs up (λ k d lt. up_to_trans e.0 x.0 (get_or xs k d).0 up (all_pairs_head (λ a b. IsUpTo a.0 b.0) x xs sorted k d lt)))
        sorted)
    by rest false f =
        simp f (AllPairs-cons (λ a b. IsUpTo a.0 b.0) x (in_place e xs)
        (all_placed (λ b. IsUpTo x.0 b.0) e xs f (all_pairs_head (λ a b. IsUpTo a.0 b.0) x xs sorted))
        rest)

all_permute : (es xs : List (List ℕ × Entry)) → IsPermutation (xs ++ es) (all_in_place es xs)
all_permute [] xs = subst (λ (l : List (List ℕ × Entry)). IsPermutation l xs) (sym (append-nil xs)) (IsPermutation-refl xs)
all_permute (e ∷ es) xs =
    IsPermutation-trans (xs ++ e ∷ es) (e ∷ all_in_place es xs) (in_place e (all_in_place es xs))
    (IsPermutation-trans (xs ++ e ∷ es) (e ∷ (xs ++ es)) (e ∷ all_in_place es xs)
    (subst (λ (l : List (List ℕ × Entry)). IsPermutation l (e ∷ (xs ++ es))) (append_assoc xs (e ∷ []) es)
    (IsPermutation-append_left es (xs ++ e ∷ []) ((e ∷ []) ++ xs) (IsPermutation-append_comm xs (e ∷ []))))
    (IsPermutation-cons e (xs ++ es) (all_in_place es xs) (all_permute es xs)))
    (place_permutes e (all_in_place es xs))

all_sort : (es xs : List (List ℕ × Entry)) → IsSortedByPath xs → IsSortedByPath (all_in_place es xs)
all_sort [] xs sorted = sorted
all_sort (e ∷ es) xs sorted = place_sorts e (all_in_place es xs) (all_sort es xs sorted)

-- ---- the functions

pub overlaid_is : (earlier later : List (List ℕ × Entry)) → IsTree earlier → IsTree later → IsOverlay earlier later (overlaid earlier later)
unfolding overlaid
overlaid_is earlier later t1 t2 =
    overlay_is earlier later (filter (λ e. is_free later e.0) earlier) (all_in_place (filter (λ e. is_free later e.0) earlier) later) t1 t2
    (kept_filter (Stays later) (Goes later) (λ e. is_free later e.0) (λ e. says_free later e.0) earlier)
    (all_permute (filter (λ e. is_free later e.0) earlier) later)
    (all_sort (filter (λ e. is_free later e.0) earlier) later (sorted_tree_list later t2))

pub is_overlaid : (earlier later both : List (List ℕ × Entry)) → IsTree earlier → IsTree later → IsOverlay earlier later both → both ≡ overlaid earlier later
is_overlaid earlier later both t1 t2 over = one_overlay earlier later both (overlaid earlier later) t2 over (overlaid_is earlier later t1 t2)

pub picked_is : (folder : List ℕ) (tree : List (List ℕ × Entry)) → IsTree tree → IsPick folder tree (picked folder tree)
unfolding picked
picked_is folder tree is = by (bytes_eq folder (46 ∷ [])) refl
  where
    by : (t : Bool) → bytes_eq folder (46 ∷ []) ≡ t → IsPick folder tree (picked folder tree)
    by true e = simp e (record { is_tree = is; held = λ path. ap (entry_at tree) (sym (ap (λ f. f path) (here_placed folder (sym e)))) })
    by false e = simp e (pick_inside folder tree tree tree (entries_below folder tree) (sym e) refl refl is refl)

pub is_picked : (folder : List ℕ) (tree part : List (List ℕ × Entry)) → IsTree tree → IsPick folder tree part → part ≡ picked folder tree
is_picked folder tree part is pick =
    same_trees part (picked folder tree) pick.is_tree ((picked_is folder tree is).is_tree) (λ q. pick.held q ∙ sym ((picked_is folder tree is).held q))
