-- Two sorted lists taken from their ends, the greatest entry first.
use Rattle.std.proofs.Common.{◌≡◌, ◌<◌, ◌≤◌, ◌-◌, ◌∙◌, ◌⊎◌, inl, inr, sym, ap, subst, ℕ, List, [], ◌∷◌, ◌++◌, length, All, arith, get_or, append_assoc, reverse, Bool, true, false}
use Rattle.std.specs.Prelude.{IsPermutation, MatchBool, not}
use Rattle.std.proofs.lemmas.Bool.{cases_lt}
use Rattle.std.proofs.lemmas.List.{reverse-append, get_or_default}
use Rattle.std.proofs.lemmas.List.Elements.{All-cons, All-nil, All-head, All-tail}
use Rattle.std.proofs.lemmas.List.Kept.{AllPairs-cons}
use Rattle.std.proofs.lemmas.List.Sorted.{IsPermutation-trans, IsPermutation-append_comm, IsPermutation-append_left, IsPermutation-append_right}
use Rattle.tree_model.specs.declared.entry.Entry.{Entry}
use Rattle.tree_model.specs.Path.{IsBefore, IsUpTo}
use Rattle.tree_model.specs.Tree.{IsSortedByPath, IsTree}
use Rattle.tree_model.specs.Merge.{EndsLast, IsTaken, IsGreatest}
use Rattle.tree_model.proofs.OrderLemmas.{before_trans, up_to_cases, up_to_from_before, up_to_itself}
use Rattle.tree_model.proofs.EditLemmas.{all_pairs_head, all_pairs_tail}

-- what is left of the two lists, and what was taken of them, the last first
pub record IsMerging (all xs ys zs : List (List ℕ × Entry)) : Type 0 where
  pub permutation : IsPermutation all (xs ++ (ys ++ reverse zs))
  pub one : IsSortedByPath (xs ++ reverse zs)
  pub other : IsSortedByPath (ys ++ reverse zs)

all_put : (P : List ℕ × Entry → Type 0) (xs rest : List (List ℕ × Entry)) (e : List ℕ × Entry) → All P (xs ++ rest) → P e → All P (xs ++ e ∷ rest)
all_put P [] rest e all here = All-cons P e rest here all
all_put P (x ∷ xs) rest e all here = All-cons P x (xs ++ e ∷ rest) (All-head P x (xs ++ rest) all) (all_put P xs rest e (All-tail P x (xs ++ rest) all) here)

-- an entry put before a sorted rest, behind sorted ones that it comes up to
sorted_put : (xs rest : List (List ℕ × Entry)) (e : List ℕ × Entry) → IsSortedByPath (xs ++ rest) → IsSortedByPath (e ∷ rest) → All (λ x. IsUpTo x.0 e.0) xs → IsSortedByPath (xs ++ e ∷ rest)
sorted_put [] rest e before after up = after
sorted_put (x ∷ xs) rest e before after up =
    AllPairs-cons (λ a b. IsUpTo a.0 b.0) x (xs ++ e ∷ rest)
    (all_put (λ b. IsUpTo x.0 b.0) xs rest e (all_pairs_head (λ a b. IsUpTo a.0 b.0) x (xs ++ rest) before) (All-head (λ z. IsUpTo z.0 e.0) x xs up))
    (sorted_put xs rest e (all_pairs_tail (λ a b. IsUpTo a.0 b.0) x (xs ++ rest) before) after (All-tail (λ z. IsUpTo z.0 e.0) x xs up))

sorted_rest : (xs ys : List (List ℕ × Entry)) → IsSortedByPath (xs ++ ys) → IsSortedByPath ys
sorted_rest [] ys sorted = sorted
sorted_rest (x ∷ xs) ys sorted = sorted_rest xs ys (all_pairs_tail (λ a b. IsUpTo a.0 b.0) x (xs ++ ys) sorted)

pub sorted_tree_list : (xs : List (List ℕ × Entry)) → IsTree xs → IsSortedByPath xs
sorted_tree_list xs tree i j d lt within = up_to_from_before (get_or xs i d).0 (get_or xs j d).0 ((tree.ordered i j d lt within).before)

more_taken : (zs : List (List ℕ × Entry)) (e : List ℕ × Entry) → reverse (zs ++ e ∷ []) ≡ e ∷ reverse zs
more_taken zs e = reverse-append zs (e ∷ [])

-- an entry that stood between two lists stands behind both
moved : (xs ys rest : List (List ℕ × Entry)) (e : List ℕ × Entry) → IsPermutation ((xs ++ e ∷ []) ++ (ys ++ rest)) (xs ++ (ys ++ e ∷ rest))
moved xs ys rest e =
    let P : List (List ℕ × Entry) → Type 0 = λ l. IsPermutation l (xs ++ (ys ++ e ∷ rest)) in
    let Q : List (List ℕ × Entry) → Type 0 = λ l. IsPermutation (xs ++ ((e ∷ []) ++ (ys ++ rest))) (xs ++ l) in
    let R : List (List ℕ × Entry) → Type 0 = λ l. IsPermutation (xs ++ l) (xs ++ ((ys ++ e ∷ []) ++ rest)) in
    subst P (sym (append_assoc xs (e ∷ []) (ys ++ rest)))
    (subst Q (append_assoc ys (e ∷ []) rest)
    (subst R (append_assoc (e ∷ []) ys rest)
    (IsPermutation-append_right xs (((e ∷ []) ++ ys) ++ rest) ((ys ++ e ∷ []) ++ rest)
    (IsPermutation-append_left rest ((e ∷ []) ++ ys) (ys ++ e ∷ []) (IsPermutation-append_comm (e ∷ []) ys)))))

-- one entry more is taken
taken_first : (all xs ys xs' ys' zs : List (List ℕ × Entry)) (e : List ℕ × Entry) → IsMerging all xs ys zs → IsTaken xs ys e xs' ys' → IsMerging all xs' ys' (zs ++ e ∷ [])
taken_first all xs ys xs' ys' zs e so_far t = record {
  permutation = subst (λ (l : List (List ℕ × Entry)). IsPermutation all (xs' ++ (l ++ reverse (zs ++ e ∷ [])))) (sym t.other)
      (subst (λ (r : List (List ℕ × Entry)). IsPermutation all (xs' ++ (ys ++ r))) (sym (more_taken zs e))
      (IsPermutation-trans all ((xs' ++ e ∷ []) ++ (ys ++ reverse zs)) (xs' ++ (ys ++ e ∷ reverse zs))
      (subst (λ (l : List (List ℕ × Entry)). IsPermutation all (l ++ (ys ++ reverse zs))) t.taken so_far.permutation)
      (moved xs' ys (reverse zs) e)));
  one = subst (λ (r : List (List ℕ × Entry)). IsSortedByPath (xs' ++ r)) (sym (more_taken zs e)) one;
  other = subst (λ (l : List (List ℕ × Entry)). IsSortedByPath (l ++ reverse (zs ++ e ∷ []))) (sym t.other)
      (subst (λ (r : List (List ℕ × Entry)). IsSortedByPath (ys ++ r)) (sym (more_taken zs e))
      (sorted_put ys (reverse zs) e so_far.other (sorted_rest xs' (e ∷ reverse zs) one) t.greatest));
}
  where
    one : IsSortedByPath (xs' ++ e ∷ reverse zs)
    one = subst (λ (l : List (List ℕ × Entry)). IsSortedByPath l) (ap (λ l. l ++ reverse zs) t.taken ∙ append_assoc xs' (e ∷ []) (reverse zs)) so_far.one

-- the two lists may change places
turned_round : (all xs ys zs : List (List ℕ × Entry)) → IsMerging all xs ys zs → IsMerging all ys xs zs
turned_round all xs ys zs m = record {
  permutation = IsPermutation-trans all (xs ++ (ys ++ reverse zs)) (ys ++ (xs ++ reverse zs)) m.permutation
      (subst (λ (l : List (List ℕ × Entry)). IsPermutation l (ys ++ (xs ++ reverse zs))) (append_assoc xs ys (reverse zs))
      (subst (λ (l : List (List ℕ × Entry)). IsPermutation ((xs ++ ys) ++ reverse zs) l) (append_assoc ys xs (reverse zs))
      (IsPermutation-append_left (reverse zs) (xs ++ ys) (ys ++ xs) (IsPermutation-append_comm xs ys))));
  one = m.other;
  other = m.one;
}

pub merge_goes_on : (all xs ys xs' ys' zs : List (List ℕ × Entry)) (e : List ℕ × Entry) → IsMerging all xs ys zs → IsGreatest xs ys e xs' ys' → IsMerging all xs' ys' (zs ++ e ∷ [])
merge_goes_on all xs ys xs' ys' zs e so_far (inl t) = taken_first all xs ys xs' ys' zs e so_far t
merge_goes_on all xs ys xs' ys' zs e so_far (inr t) =
    turned_round all ys' xs' (zs ++ e ∷ []) (taken_first all ys xs ys' xs' zs e (turned_round all xs ys zs so_far) t)

-- the last of a sorted list comes behind all of it
pub last_up : (xs : List (List ℕ × Entry)) (e d : List ℕ × Entry) → IsSortedByPath (xs ++ e ∷ []) → All (λ x. IsUpTo x.0 e.0) xs
last_up [] e d sorted = All-nil (λ x. IsUpTo x.0 e.0)
last_up (x ∷ xs) e d sorted =
    All-cons (λ z. IsUpTo z.0 e.0) x xs (sorted_head x xs e (all_pairs_head (λ a b. IsUpTo a.0 b.0) x (xs ++ e ∷ []) sorted)) (last_up xs e d (all_pairs_tail (λ a b. IsUpTo a.0 b.0) x (xs ++ e ∷ []) sorted))
  where
    sorted_head : (x : List ℕ × Entry) (xs : List (List ℕ × Entry)) (e : List ℕ × Entry) → All (λ b. IsUpTo x.0 b.0) (xs ++ e ∷ []) → IsUpTo x.0 e.0
    sorted_head x [] e all = All-head (λ b. IsUpTo x.0 b.0) e [] all
    sorted_head x (y ∷ ys) e all = sorted_head x ys e (All-tail (λ b. IsUpTo x.0 b.0) y (ys ++ e ∷ []) all)

-- ---- which list ends last

pub up_to_trans : (a b c : List ℕ) → IsUpTo a b → IsUpTo b c → IsUpTo a c
up_to_trans a b c ab bc = by (up_to_cases a b ab) (up_to_cases b c bc)
  where
    by : (a ≡ b) ⊎ IsBefore a b → (b ≡ c) ⊎ IsBefore b c → IsUpTo a c
    by (inl e) _ = subst (λ (z : List ℕ). IsUpTo z c) (sym e) bc
    by (inr h) (inl e) = subst (λ (z : List ℕ). IsUpTo a z) e ab
    by (inr h) (inr g) = up_to_from_before a c (before_trans a b c h g)

last_at : (xs : List (List ℕ × Entry)) (e d : List ℕ × Entry) → 0 < length xs → e ≡ get_or xs (length xs - 1) e → get_or xs (length xs - 1) d ≡ e
last_at xs e d some is = get_or_default xs (length xs - 1) d e (omega arith) ∙ sym is

-- an entry of a sorted list comes up to its last one
up_to_last : (xs : List (List ℕ × Entry)) (e : List ℕ × Entry) → IsSortedByPath xs → 0 < length xs → e ≡ get_or xs (length xs - 1) e → All (λ x. IsUpTo x.0 e.0) xs
up_to_last xs e sorted some is k d lt = by (cases_lt k (length xs - 1))
  where
    by : (k < length xs - 1) ⊎ (length xs - 1 ≤ k) → IsUpTo (get_or xs k d).0 e.0
    by (inl l) = subst (λ (z : List ℕ × Entry). IsUpTo (get_or xs k d).0 z.0) (last_at xs e d some is) (sorted k (length xs - 1) d l (omega arith))
    by (inr g) =
        let m : k ≡ length xs - 1 = omega arith in
        subst (λ (z : List ℕ × Entry). IsUpTo z.0 e.0) (sym (ap (λ n. get_or xs n d) m ∙ last_at xs e d some is)) (up_to_itself e.0)

pub ends_last : (xs ys : List (List ℕ × Entry)) (a b : List ℕ × Entry) → IsSortedByPath ys → 0 < length xs → 0 < length ys → a ≡ get_or xs (length xs - 1) a → b ≡ get_or ys (length ys - 1) b → IsUpTo b.0 a.0 → EndsLast xs ys
ends_last xs ys a b sorted nx ny ax by le = record {
  some = nx;
  last = λ d k f lt. subst (λ (z : List ℕ × Entry). IsUpTo (get_or ys k f).0 z.0) (sym (last_at xs a d nx ax))
      (up_to_trans (get_or ys k f).0 b.0 a.0 (up_to_last ys b sorted ny by k f lt) le);
}

pub last_cases : (xs ys : List (List ℕ × Entry)) (a b : List ℕ × Entry) (pa pb : List ℕ) (before : Bool) → IsSortedByPath xs → IsSortedByPath ys → 0 < length xs → 0 < length ys → a ≡ get_or xs (length xs - 1) a → b ≡ get_or ys (length ys - 1) b → pa ≡ a.0 → pb ≡ b.0 → MatchBool before (IsBefore pa pb) (IsUpTo pb pa) → MatchBool (not before) (EndsLast xs ys) (EndsLast ys xs ⊎ (length xs ≡ 0))
last_cases xs ys a b pa pb true sx sy nx ny ax by sa sb h =
    inl (ends_last ys xs b a sx ny nx by ax (subst (λ (z : List ℕ). IsUpTo z b.0) sa (subst (λ (z : List ℕ). IsUpTo pa z) sb (up_to_from_before pa pb h))))
last_cases xs ys a b pa pb false sx sy nx ny ax by sa sb h =
    ends_last xs ys a b sy nx ny ax by (subst (λ (z : List ℕ). IsUpTo z a.0) sb (subst (λ (z : List ℕ). IsUpTo pb z) sa h))
