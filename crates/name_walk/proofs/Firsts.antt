-- The first name of two lists in byte order.
use Rattle.std.proofs.Common.{◌≡◌, refl, sym, ◌∙◌, ap, subst, ℕ, List, [], ◌∷◌, ◌++◌, true, false, ◌||◌, Bool, inl, inr, bytes_eq}
use Rattle.std.specs.Cmp.Lexicographic.{slice_cmp}
use Rattle.std.specs.Ordering.{nat_cmp}
use Rattle.std.specs.declared.cmp.Ordering.{Ordering}
use Rattle.std.proofs.lemmas.Cmp.{nat_list_cmp_total}
use Rattle.meta_model.proofs.Bools.{not_both, either_way, or_first, or_later, from_or, same_text, text_itself}
use Rattle.meta_model.specs.Text.{is_in, in_byte_order}
use Rattle.meta_model.specs.Ascending.{Before, Above, Ascending}
use Rattle.meta_model.proofs.Ordered.{ordered_in, ordered_ascending, ascending_same}
use Rattle.task_model.proofs.Least.{in_either}
use Rattle.name_walk.specs.Walk.{with_more}
use Rattle.name_walk.specs.Firsts.{IsFirst}
use Rattle.name_walk.proofs.Besides.{or_swap, in_both}
use Rattle.name_walk.proofs.Steps.{in_order}

above_more : (x y : List ℕ) (ys : List (List ℕ)) → Before x y → Above y ys → Above x ys
above_more x y [] b a = tt
above_more x y (z ∷ ys) b a = (nat_list_cmp_total.trans x y z b a.0, above_more x y ys b a.1)

before_in : (x t : List ℕ) (ys : List (List ℕ)) → Above x ys → is_in t ys ≡ true → Before x t
before_in x t [] a h = not_both false h refl
before_in x t (y ∷ ys) a h = elim (either_way (bytes_eq t y)) [
  | inl e ↦ subst (Before x) (sym (same_text t y e)) a.0
  | inr f ↦ before_in x t ys a.1 (from_or (bytes_eq t y) (is_in t ys) h f)
]

above_all : (x : List ℕ) (ys : List (List ℕ)) → ((t : List ℕ) → is_in t ys ≡ true → Before x t) → Above x ys
above_all x [] h = tt
above_all x (y ∷ ys) h = (h y (or_first (bytes_eq y y) (is_in y ys) (text_itself y)), above_all x ys (λ t k. h t (or_later (bytes_eq t y) (is_in t ys) k)))

-- a name that comes before all others is the first
first_is : (all rest : List (List ℕ)) (x : List ℕ) → ((t : List ℕ) → is_in t all ≡ (bytes_eq t x || is_in t rest)) → ((t : List ℕ) → is_in t rest ≡ true → Before x t) → in_byte_order all ≡ x ∷ in_byte_order rest
first_is all rest x same before =
    ascending_same (in_byte_order all) (x ∷ in_byte_order rest) (ordered_ascending all) (above_all x (in_byte_order rest) (λ t h. before t (sym (ordered_in rest t) ∙ h)), ordered_ascending rest)
    (λ t. ordered_in all t ∙ same t ∙ ap (λ b. bytes_eq t x || b) (sym (ordered_in rest t)))

lesser : (x : List ℕ) (xs other : List (List ℕ)) → Above x xs → Above x other → with_more (x ∷ xs) other ≡ x ∷ with_more xs other
lesser x xs other a b = first_is ((x ∷ xs) ++ other) (xs ++ other) x (λ t. refl) (λ t h. elim (in_either t xs other h) [
  | inl k ↦ before_in x t xs a k
  | inr k ↦ before_in x t other b k
])

greater : (y : List ℕ) (one ys : List (List ℕ)) → Above y one → Above y ys → with_more one (y ∷ ys) ≡ y ∷ with_more one ys
greater y one ys a b =
    first_is (one ++ (y ∷ ys)) (one ++ ys) y (λ t. in_both t one (y ∷ ys) ∙ or_swap (is_in t one) (bytes_eq t y) (is_in t ys) ∙ ap (λ c. bytes_eq t y || c) (sym (in_both t one ys)))
    (λ t h. elim (in_either t one ys h) [ inl k ↦ before_in y t one a k | inr k ↦ before_in y t ys b k ])

or_once : (a b c : Bool) → (a || (b || (a || c))) ≡ (a || (b || c))
or_once true b c = refl
or_once false b c = refl

equal : (x : List ℕ) (xs ys : List (List ℕ)) → Above x xs → Above x ys → with_more (x ∷ xs) (x ∷ ys) ≡ x ∷ with_more xs ys
equal x xs ys a b =
    first_is ((x ∷ xs) ++ (x ∷ ys)) (xs ++ ys) x
    (λ t. ap (λ c. bytes_eq t x || c) (in_both t xs (x ∷ ys)) ∙ or_once (bytes_eq t x) (is_in t xs) (is_in t ys) ∙ ap (λ c. bytes_eq t x || c) (sym (in_both t xs ys)))
    (λ t h. elim (in_either t xs ys h) [ inl k ↦ before_in x t xs a k | inr k ↦ before_in x t ys b k ])

ascends : (list : List (List ℕ)) → in_byte_order list ≡ list → Ascending list
ascends list h = subst Ascending h (ordered_ascending list)

-- the names of both lists, the first of which is this

pub first_less : (one other rest others : List (List ℕ)) (first second : List ℕ) → one ≡ first ∷ rest → other ≡ second ∷ others → in_byte_order one ≡ one → in_byte_order other ≡ other → Before first second → IsFirst one other first rest other
first_less one other rest others first second e f p q b =
    let a : Ascending (first ∷ rest) = subst Ascending e (ascends one p) in
    let c : Ascending (second ∷ others) = subst Ascending f (ascends other q) in
    record {
      names = ap (λ l. with_more l other) e ∙ lesser first rest other a.0 (subst (Above first) (sym f) (b, above_more first second others b c.0));
      one = in_order rest a.1;
      other = q;
    }

pub first_same : (one other rest others : List (List ℕ)) (first second : List ℕ) → one ≡ first ∷ rest → other ≡ second ∷ others → in_byte_order one ≡ one → in_byte_order other ≡ other → first ≡ second → IsFirst one other first rest others
first_same one other rest others first second e f p q s =
    let a : Ascending (first ∷ rest) = subst Ascending e (ascends one p) in
    let g : other ≡ first ∷ others = f ∙ ap (λ z. z ∷ others) (sym s) in
    let c : Ascending (first ∷ others) = subst Ascending g (ascends other q) in
    record {
      names = ap (λ l. with_more l other) e ∙ ap (with_more (first ∷ rest)) g ∙ equal first rest others a.0 c.0;
      one = in_order rest a.1;
      other = in_order others c.1;
    }

pub first_more : (one other rest others : List (List ℕ)) (first second : List ℕ) → one ≡ first ∷ rest → other ≡ second ∷ others → in_byte_order one ≡ one → in_byte_order other ≡ other → Before second first → IsFirst one other second one others
first_more one other rest others first second e f p q b =
    let a : Ascending (first ∷ rest) = subst Ascending e (ascends one p) in
    let c : Ascending (second ∷ others) = subst Ascending f (ascends other q) in
    record {
      names = ap (with_more one) f ∙ greater second one others (subst (Above second) (sym e) (b, above_more second first rest b a.0)) c.0;
      one = p;
      other = in_order others c.1;
    }

pub first_alone : (one other rest : List (List ℕ)) (first : List ℕ) → one ≡ first ∷ rest → other ≡ [] → in_byte_order one ≡ one → IsFirst one other first rest other
first_alone one other rest first e n p =
    let a : Ascending (first ∷ rest) = subst Ascending e (ascends one p) in
    record {
      names = ap (λ l. with_more l other) e ∙ lesser first rest other a.0 (subst (Above first) (sym n) tt);
      one = in_order rest a.1;
      other = ap in_byte_order n ∙ sym n;
    }

pub second_alone : (one other others : List (List ℕ)) (second : List ℕ) → one ≡ [] → other ≡ second ∷ others → in_byte_order other ≡ other → IsFirst one other second one others
second_alone one other others second n f q =
    let c : Ascending (second ∷ others) = subst Ascending f (ascends other q) in
    record {
      names = ap (with_more one) f ∙ greater second one others (subst (Above second) (sym n) tt) c.0;
      one = ap in_byte_order n ∙ sym n;
      other = in_order others c.1;
    }

pub none_left : (one other : List (List ℕ)) → one ≡ [] → other ≡ [] → with_more one other ≡ []
none_left one other n m = ap (λ l. with_more l other) n ∙ ap (with_more []) m

-- how two names compare that are given as texts
pub compared : (a b first second : List ℕ) (o : Ordering) → o ≡ slice_cmp nat_cmp a b → a ≡ first → b ≡ second → slice_cmp nat_cmp first second ≡ o
compared a b first second o h e f = ap (λ z. slice_cmp nat_cmp z second) (sym e) ∙ ap (slice_cmp nat_cmp a) (sym f) ∙ sym h
