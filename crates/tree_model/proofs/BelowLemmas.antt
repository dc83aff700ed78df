-- Where a path is looked for among the entries of a tree, and which entry it may lie below.
use Rattle.std.proofs.Common.{◌≡◌, ◌<◌, ◌≤◌, ◌+◌, ◌-◌, ◌∙◌, ◌⊎◌, inl, inr, sym, ap, subst, refl, ℕ, List, [], ◌∷◌, ◌++◌, length, take, All, arith, get_or, Bool, true, false, length-append}
use Rattle.std.specs.Prelude.{Any, MatchBool}
use Rattle.std.proofs.lemmas.Bool.{cases_lt}
use Rattle.std.proofs.lemmas.List.{get_or_default, get_or_read, get_or_append_left, get_or_at, take_at}
use Rattle.tree_model.specs.declared.entry.Entry.{Entry}
use Rattle.tree_model.specs.Path.{IsBelow, IsBefore, IsUpTo, BeginsWith}
use Rattle.tree_model.specs.Reach.{IsCommon}
use Rattle.tree_model.specs.Tree.{IsTree, IsAscending, IsStart}
use Rattle.tree_model.proofs.OrderLemmas.{before_itself, before_trans, before_below, begins_between, not_before_back, up_to_from_before, up_to_itself}
use Rattle.tree_model.proofs.MergeLemmas.{up_to_trans}
use Rattle.tree_model.proofs.OverlayLemmas.{any_below_same, below_at}

-- ---- the place of a path

-- the entries in front of a place come before a path
pub record AreBefore (xs : List (List ℕ × Entry)) (place : ℕ) (path : List ℕ) : Type 0 where
  pub within : place ≤ length xs
  pub before : (k : ℕ) (d : List ℕ × Entry) → k < place → IsBefore (get_or xs k d).0 path

pub begins_at : (xs : List (List ℕ × Entry)) (place : ℕ) (path here : List ℕ) (e : List ℕ × Entry) → IsAscending xs → place < length xs → e ≡ get_or xs place e → here ≡ e.0 → AreBefore xs place path → IsUpTo path here → IsStart xs path place
begins_at xs place path here e asc lt is same so_far up = record {
  within = omega arith;
  before = so_far.before;
  after = λ k d ge within. by k d ge within (cases_lt place k);
}
  where
    at : (d : List ℕ × Entry) → IsUpTo path (get_or xs place d).0
    at d = subst (λ (z : List ℕ). IsUpTo path z) (same ∙ ap (λ x. x.0) (is ∙ get_or_default xs place e d lt)) up

    by : (k : ℕ) (d : List ℕ × Entry) → place ≤ k → k < length xs → (place < k) ⊎ (k ≤ place) → IsUpTo path (get_or xs k d).0
    by k d ge within (inl l) = up_to_trans path (get_or xs place d).0 (get_or xs k d).0 (at d) (up_to_from_before (get_or xs place d).0 (get_or xs k d).0 (asc place k d l within))
    by k d ge within (inr g) = let m : place ≡ k = omega arith in subst (λ (n : ℕ). IsUpTo path (get_or xs n d).0) m (at d)

-- all entries in front of one that comes before a path come before it too
pub before_last : (xs : List (List ℕ × Entry)) (place : ℕ) (path here : List ℕ) (e : List ℕ × Entry) → IsAscending xs → place - 1 < length xs → 0 < place → e ≡ get_or xs (place - 1) e → here ≡ e.0 → IsBefore here path → (k : ℕ) (d : List ℕ × Entry) → k < place → IsBefore (get_or xs k d).0 path
before_last xs place path here e asc lt some is same before k d h = by (cases_lt k (place - 1))
  where
    last : IsBefore (get_or xs (place - 1) d).0 path
    last = subst (λ (z : List ℕ). IsBefore z path) (same ∙ ap (λ x. x.0) (is ∙ get_or_default xs (place - 1) e d lt)) before

    by : (k < place - 1) ⊎ (place - 1 ≤ k) → IsBefore (get_or xs k d).0 path
    by (inl l) = before_trans (get_or xs k d).0 (get_or xs (place - 1) d).0 path (asc k (place - 1) d l lt) last
    by (inr g) = let m : place - 1 ≡ k = omega arith in subst (λ (n : ℕ). IsBefore (get_or xs n d).0 path) m last

-- ---- what two texts have in common

pub record AgreesUpTo (one other : List ℕ) (n : ℕ) : Type 0 where
  pub within : n ≤ length other
  pub same : (k : ℕ) → k < n → get_or one k 0 ≡ get_or other k 0

-- where one begins with a text, and the other with it and a slash, and the first doesn't lie below it, they have just that
-- text in common
ends_there : (l r rest p e : List ℕ) (n : ℕ) → p ≡ l ++ r → e ≡ l ++ 47 ∷ rest → (IsBelow l p → ⊥) → IsCommon p e n → n ≡ length l
ends_there l r rest p e n ip ie apart common = by r ip (cases_lt n (length l)) (cases_lt (length l) n)
  where
    in_p : (r : List ℕ) → p ≡ l ++ r → n < length l → get_or p n 0 ≡ get_or l n 0
    in_p r ip lt = ap (λ z. get_or z n 0) ip ∙ get_or_append_left l r 0 n lt

    in_e : n < length l → get_or e n 0 ≡ get_or l n 0
    in_e lt = ap (λ z. get_or z n 0) ie ∙ get_or_append_left l (47 ∷ rest) 0 n lt

    longer : (r : List ℕ) → p ≡ l ++ r → n < length l → ⊥
    longer r ip lt = common.apart (omega (arith, ap length ip, length-append l r)) (omega (arith, ap length ie, length-append l (47 ∷ rest))) (in_p r ip lt ∙ sym (in_e lt))

    by : (r : List ℕ) → p ≡ l ++ r → (n < length l) ⊎ (length l ≤ n) → (length l < n) ⊎ (n ≤ length l) → n ≡ length l
    by r ip (inl lt) _ = absurd (longer r ip lt)
    by r ip (inr ge) (inr le) = omega arith
    by [] ip (inr ge) (inl lt) = absurd (omega (arith, common.within_one, ap length ip, length-append l []))
    by (x ∷ r) ip (inr ge) (inl lt) =
        let e1 : get_or p (length l) 0 ≡ x = ap (λ z. get_or z (length l) 0) ip ∙ get_or_at l x r 0 (length l) refl in
        let e2 : get_or e (length l) 0 ≡ 47 = ap (λ z. get_or z (length l) 0) ie ∙ get_or_at l 47 rest 0 (length l) refl in
        let slash : x ≡ 47 = sym e1 ∙ common.same (length l) lt ∙ e2 in
        absurd (apart (r, ip ∙ ap (λ z. l ++ z ∷ r) slash))

-- ---- below an entry

-- an entry that the path lies below stands in front of its place
pub below_in_front : (xs : List (List ℕ × Entry)) (e : List ℕ) (start : ℕ) → IsStart xs e start → (any : Any (λ x. IsBelow x.0 e) xs) → any.0 < start
below_in_front xs e start from any = by (cases_lt any.0 start)
  where
    by : (any.0 < start) ⊎ (start ≤ any.0) → any.0 < start
    by (inl l) = l
    by (inr g) =
        absurd (not_before_back e any.1.0 (subst (λ (x : List ℕ × Entry). IsUpTo e x.0) any.3 (from.after any.0 any.1 g any.2)) (before_below any.1.0 e any.4))

-- where a path lies below an entry
pub record LiesAt (xs : List (List ℕ × Entry)) (e : List ℕ) (n : ℕ) : Type 0 where
  pub within : n < length e
  pub slash : get_or e n 0 ≡ 47
  pub held : Any (λ x. x.0 ≡ take n e) xs

pub below_there : (xs : List (List ℕ × Entry)) (e p : List ℕ) (start n : ℕ) → IsTree xs → IsStart xs e start → ((d : List ℕ × Entry) → (get_or xs (start - 1) d).0 ≡ p) → IsCommon p e n → Any (λ x. IsBelow x.0 e) xs → LiesAt xs e n
below_there xs e p start n tree from pred common any = record {
  within = omega (arith, ends, ap length any.4.1, length-append any.1.0 (47 ∷ any.4.0));
  slash = ap (λ m. get_or e m 0) ends ∙ ap (λ z. get_or z (length any.1.0) 0) any.4.1 ∙ get_or_at any.1.0 47 any.4.0 0 (length any.1.0) refl;
  held = (any.0, any.1, any.2, any.3, sym (ap (λ m. take m e) ends ∙ ap (take (length any.1.0)) any.4.1 ∙ take_at any.1.0 (47 ∷ any.4.0) (length any.1.0) refl));
}
  where
    lt : any.0 < start
    lt = below_in_front xs e start from any

    last_before : IsBefore p e
    last_before = subst (λ (z : List ℕ). IsBefore z e) (pred any.1) (from.before (start - 1) any.1 (let h : any.0 < start = below_in_front xs e start from any in omega arith))

    stands : (any.0 < start - 1) ⊎ (start - 1 ≤ any.0) → IsUpTo any.1.0 p × (IsBelow any.1.0 p → ⊥)
    stands (inl l) =
        let h = tree.ordered any.0 (start - 1) any.1 l (let g = from.within in let k : any.0 < start = below_in_front xs e start from any in omega arith) in
        let a : (get_or xs any.0 any.1).0 ≡ any.1.0 = ap (λ x. x.0) any.3 in (
          subst (λ (z : List ℕ). IsUpTo z p) a (subst (λ (z : List ℕ). IsUpTo (get_or xs any.0 any.1).0 z) (pred any.1) (up_to_from_before (get_or xs any.0 any.1).0 (get_or xs (start - 1) any.1).0 h.before)),
          λ b. h.not_above (subst (λ (z : List ℕ). IsBelow z (get_or xs (start - 1) any.1).0) (sym a) (subst (λ (z : List ℕ). IsBelow any.1.0 z) (sym (pred any.1)) b)),
        )
    stands (inr g) =
        let k : any.0 < start = below_in_front xs e start from any in
        let m : start - 1 ≡ any.0 = omega arith in
        let same : p ≡ any.1.0 = sym (pred any.1) ∙ ap (λ i. (get_or xs i any.1).0) m ∙ ap (λ x. x.0) any.3 in
        (subst (λ (z : List ℕ). IsUpTo any.1.0 z) (sym same) (up_to_itself any.1.0), λ b. before_itself any.1.0 (before_below any.1.0 any.1.0 (subst (λ (z : List ℕ). IsBelow any.1.0 z) same b)))

    ends : n ≡ length any.1.0
    ends =
        let s = stands (cases_lt any.0 (start - 1)) in
        let front : BeginsWith any.1.0 p = begins_between any.1.0 p e (47 ∷ any.4.0) s.0 (up_to_from_before p e last_before) any.4.1 in
        ends_there any.1.0 front.0 any.4.0 p e n front.1 any.4.1 s.1 common

pub none_below : (xs : List (List ℕ × Entry)) (e p path : List ℕ) (start n : ℕ) → IsTree xs → IsStart xs path start → ((d : List ℕ × Entry) → (get_or xs (start - 1) d).0 ≡ p) → IsCommon p e n → e ≡ path → (LiesAt xs e n → ⊥) → All (λ x. IsBelow x.0 path → ⊥) xs
none_below xs e p path start n tree from pred common same isnt k d lt h =
    isnt (below_there xs e p start n tree (subst (λ (z : List ℕ). IsStart xs z start) (sym same) from) pred common
    (k, get_or xs k d, lt, get_or_default xs k (get_or xs k d) d lt, subst (λ (z : List ℕ). IsBelow (get_or xs k d).0 z) (sym same) h))

pub none_in_front : (xs : List (List ℕ × Entry)) (path : List ℕ) (start : ℕ) → IsStart xs path start → start ≡ 0 → All (λ x. IsBelow x.0 path → ⊥) xs
none_in_front xs path start from none k d lt h =
    absurd (let g = below_in_front xs path start from (k, get_or xs k d, lt, get_or_default xs k (get_or xs k d) d lt, h) in omega arith)

pub pred_at : (xs : List (List ℕ × Entry)) (i : ℕ) (e : List ℕ × Entry) (here p : List ℕ) → i < length xs → e ≡ get_or xs i e → here ≡ e.0 → p ≡ here → (d : List ℕ × Entry) → (get_or xs i d).0 ≡ p
pred_at xs i e here p lt is same last d = sym (ap (λ x. x.0) (get_or_read xs i e lt is d)) ∙ sym same ∙ sym last

-- what a search at the one place tells
pub below_cases : (xs : List (List ℕ × Entry)) (e p path : List ℕ) (start n : ℕ) (r : Bool) → IsTree xs → IsStart xs path start → ((d : List ℕ × Entry) → (get_or xs (start - 1) d).0 ≡ p) → IsCommon p e n → e ≡ path → n < length e → get_or e n 0 ≡ 47
    → MatchBool r (Any (λ x. x.0 ≡ take n e) xs) (All (λ x. x.0 ≡ take n e → ⊥) xs)
    → MatchBool r (Any (λ x. IsBelow x.0 path) xs) (All (λ x. IsBelow x.0 path → ⊥) xs)
below_cases xs e p path start n true tree from pred common same lt slash h = any_below_same xs e path same (below_at xs e n lt slash h)
below_cases xs e p path start n false tree from pred common same lt slash h =
    none_below xs e p path start n tree from pred common same (λ l. h l.held.0 l.held.1 l.held.2 (ap (λ x. x.0) l.held.3 ∙ l.held.4))
